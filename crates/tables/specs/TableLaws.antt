-- What the test of a table tells: its words are a line code.
-- Assumes nothing.
use Rattle.std.specs.Prelude.{◌≡◌, ℕ, zero, suc, ◌^◌, ◌<◌, ◌≤◌, Bool, true, false, not, ◌&&◌, ◌||◌, T, List, [], ◌∷◌, length, get_or, ◌==◌, ◌≢◌, nat_le, slice_index, slice_index_or, refl}
use Rattle.std.proofs.Common.{sym, ap, ◌∙◌, inl, inr, ⊎_elim, arith, le_of_suc-le-suc, not-suc-le-zero}
use Rattle.std.specs.List.{prefix_len}
use Rattle.std.proofs.lemmas.Bool.{eqb-true, eq-eqb, leb-true, and_parts, and_from, or_cases, not-true, both_ways}
use Rattle.linecode.specs.Chips.{is_chip}
use Rattle.linecode.specs.Codes.{Lawful, Width}
use Rattle.tables.specs.Tables.{is_width, is_word, same, absent, distinct, all_words, sound_table, table_code}
use Rattle.linecode.specs.Judging.{leading_every}

t_true : (b : Bool) → T b → b ≡ true
t_true true t = refl
t_true false t = absurd t

same_refl : (w : List ℕ) → same w w ≡ true
same_refl [] = refl
same_refl (x ∷ xs) = and_from (x == x) (same xs xs) (eq-eqb x x refl) (same_refl xs)

absent_at : (w : List ℕ) (ws : List (List ℕ)) → absent w ws ≡ true → (k : ℕ) → k < length ws → w ≢ slice_index_or ws k []
absent_at w [] t k h e = not-suc-le-zero h
absent_at w (x ∷ xs) t zero h e =
    let no = not-true (same w x) (and_parts (not (same w x)) (absent w xs) t).0 in
    both_ways (same w x) no (ap (same w) (sym e) ∙ same_refl w)
absent_at w (x ∷ xs) t (suc k) h e = absent_at w xs (and_parts (not (same w x)) (absent w xs) t).1 k (le_of_suc-le-suc h) e

-- words of a table of different words are at one place only
pub distinct_at : (ws : List (List ℕ)) → distinct ws ≡ true → (v u : ℕ) → v < length ws → u < length ws → slice_index_or ws v [] ≡ slice_index_or ws u [] → v ≡ u
distinct_at [] t v u hv hu e = absurd (not-suc-le-zero hv)
distinct_at (w ∷ ws) t zero zero hv hu e = refl
distinct_at (w ∷ ws) t zero (suc u) hv hu e = absurd (absent_at w ws (and_parts (absent w ws) (distinct ws) t).0 u (le_of_suc-le-suc hu) e)
distinct_at (w ∷ ws) t (suc v) zero hv hu e = absurd (absent_at w ws (and_parts (absent w ws) (distinct ws) t).0 v (le_of_suc-le-suc hv) (sym e))
distinct_at (w ∷ ws) t (suc v) (suc u) hv hu e =
    ap suc (distinct_at ws (and_parts (absent w ws) (distinct ws) t).1 v u (le_of_suc-le-suc hv) (le_of_suc-le-suc hu) e)

all_words_at : (n : ℕ) (ws : List (List ℕ)) → all_words n ws ≡ true → (v : ℕ) → v < length ws → is_word n (slice_index_or ws v []) ≡ true
all_words_at n [] t v h = absurd (not-suc-le-zero h)
all_words_at n (w ∷ ws) t zero h = (and_parts (is_word n w) (all_words n ws) t).0
all_words_at n (w ∷ ws) t (suc v) h = all_words_at n ws (and_parts (is_word n w) (all_words n ws) t).1 v (le_of_suc-le-suc h)

width_of : (g : ℕ) → is_width g ≡ true → Width g
width_of g t =
    ⊎_elim (λ e. inl (eqb-true g 1 e))
    (λ r. inr (⊎_elim (λ e. inl (eqb-true g 2 e))
    (λ s. inr (⊎_elim (λ e. inl (eqb-true g 4 e)) (λ e. inr (eqb-true g 8 e)) (or_cases (g == 4) (g == 8) s)))
    (or_cases (g == 2) (g == 4 || g == 8) r)))
    (or_cases (g == 1) (g == 2 || (g == 4 || g == 8)) t)

pub record Sound (g n : ℕ) (ws : List (List ℕ)) : Type 0 where
  pub width : Width g
  pub some : 1 ≤ n
  pub few : n ≤ 128
  pub count : length ws ≡ 2 ^ g
  pub words : (v : ℕ) → v < length ws → is_word n (slice_index_or ws v []) ≡ true
  pub apart : (v u : ℕ) → v < length ws → u < length ws → slice_index_or ws v [] ≡ slice_index_or ws u [] → v ≡ u

module _ (g n : ℕ) (ws : List (List ℕ)) (t : T (sound_table g n ws)) where
  pub sound : Sound g n ws
  sound =
      let a = and_parts (is_width g) (nat_le 1 n && (nat_le n 128 && (length ws == 2 ^ g && (all_words n ws && distinct ws)))) (t_true (sound_table g n ws) t) in
      let b = and_parts (nat_le 1 n) (nat_le n 128 && (length ws == 2 ^ g && (all_words n ws && distinct ws))) a.1 in
      let c = and_parts (nat_le n 128) (length ws == 2 ^ g && (all_words n ws && distinct ws)) b.1 in
      let d = and_parts (length ws == 2 ^ g) (all_words n ws && distinct ws) c.1 in
      let e = and_parts (all_words n ws) (distinct ws) d.1 in
      record {
        width = width_of g a.0;
        some = leb-true 1 n b.0;
        few = leb-true n 128 c.0;
        count = eqb-true (length ws) (2 ^ g) d.0;
        words = all_words_at n ws e.0;
        apart = distinct_at ws e.1;
      }

  pub word_length : (v : ℕ) → v < length ws → length (slice_index_or ws v []) ≡ n
  word_length v h =
      let w = get_or ws v [] in
      eqb-true (length w) n (and_parts (length w == n) (prefix_len is_chip w == n) (sound.words v h)).0

  pub word_binary : (v i : ℕ) → v < length ws → i < n → slice_index (slice_index_or ws v []) i < 2
  word_binary v i h lt =
      let w = get_or ws v [] in
      let long = word_length v h in
      let front = eqb-true (prefix_len is_chip w) n (and_parts (length w == n) (prefix_len is_chip w == n) (sound.words v h)).1 in
      leading_every w (front ∙ sym long) i (omega arith)

  pub table_lawful : Lawful (table_code g n ws)
  table_lawful =
      let count = sound.count in
      record {
        width = sound.width;
        some = sound.some;
        few = sound.few;
        sized = λ p v hp hv. word_length v (omega arith);
        binary = λ p v i hp hv hi. word_binary v i (omega arith) hi;
        apart = λ p v u hp hv hu e. sound.apart v u (omega arith) (omega arith) e;
      }
