pub mod Whitening
pub mod WhiteningLaws
pub mod Layers
pub mod LayerLaws
