pub mod Tables
pub mod TableLaws
pub mod Words
pub mod Codes
pub mod CodeLaws
pub mod Facts
