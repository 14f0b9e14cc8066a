-- Going back by the words, place by place and octet by octet.
-- Assumes nothing.
use Rattle.std.proofs.Common.{◌≡◌, ℕ, suc, ◌+◌, ◌-◌, ◌*◌, ◌/◌, ◌%◌, ◌^◌, ◌<◌, ◌≤◌, Bool, List, length, reverse, take, drop, get_or, sym, refl, ap, ◌∙◌, arith}
use Rattle.std.proofs.lemmas.Grind.{get_or_default_zero}
use Rattle.std.proofs.lemmas.List.{length-reverse, length-take, length-drop, get_or-reverse, get_or-take, get_or-drop}
use Rattle.codebits.specs.Bits.{one, bit_at, number_at}
use Rattle.codebits.specs.Message.{octet_of}
use Rattle.nearest.specs.Trellis.{before, traced}
use Rattle.codebits.proofs.Numbers.{number_same}
use Rattle.nearest.proofs.Numbers.{bit_value, number_front}
use Rattle.nearest.proofs.Trace.{traced_here, traced_below}
use Rattle.trellis.specs.Trace.{took_by, ComesTo}

-- the words of places start to end, read from the last on
abbrev pub behind : List ℕ → ℕ → ℕ → List ℕ
behind words start end = reverse (take (end - start) (drop start words))

pub behind_length : (words : List ℕ) (start end : ℕ) → end ≤ length words → length (behind words start end) ≡ end - start
behind_length words start end room = length-reverse (take (end - start) (drop start words)) ∙ simp (length-take, length-drop) (omega arith)

behind_at : (words : List ℕ) (start end m w : ℕ) → start ≤ end → end ≤ length words → m < end - start → get_or (behind words start end) m w ≡ get_or words (end - suc m) 0
behind_at words start end m w le room few =
    let part = take (end - start) (drop start words) in
    let long : length part ≡ end - start = simp (length-take, length-drop) (omega arith) in
    let at : start + (length part - 1 - m) ≡ end - suc m = omega arith in
    get_or-reverse part m w (omega arith)
    ∙ (get_or-take (end - start) (drop start words) (length part - 1 - m) w (omega arith)
    ∙ (get_or-drop start words (length part - 1 - m) w ∙ (ap (λ p. get_or words p w) at ∙ get_or_default_zero words (end - suc m) w (omega arith))))

module _ (words : List ℕ) (n s : ℕ) where
  message : ℕ → Bool
  message = traced (took_by words) n s

  pub comes_none : s < 64 → ComesTo words n s n s
  comes_none h = record { small = h; left = λ i l. refl }

  -- one place further back, by the word of that step
  pub comes_more : (k t r : ℕ) → ComesTo words n s (suc k) t → r ≡ before t (bit_at (get_or words k 0) t) → r < 64 → ComesTo words n s k r
  comes_more k t r c e small = record {
    small = small;
    left = λ i l. rw e (c.left i (omega arith) ∙ traced_below (took_by words) k t i l);
  }

  -- the bit of the place that is passed
  pub comes_bit : (k t : ℕ) → ComesTo words n s (suc k) t → traced (took_by words) n s k ≡ bit_at t 0
  comes_bit k t c = c.left k (omega arith) ∙ traced_here (took_by words) k t

  -- one more bit of a number, at its front
  pub bit_front : (k g t v : ℕ) → ComesTo words n s (suc k) t → v ≡ number_at (traced (took_by words) n s) (suc k) g → v * 2 + t % 2 ≡ number_at (traced (took_by words) n s) k (suc g)
  bit_front k g t v c e =
      let bit : one (traced (took_by words) n s k) ≡ t / 2 ^ 0 % 2 = ap one (comes_bit k t c) ∙ bit_value t 0 in
      let plain : t / 2 ^ 0 ≡ t = omega arith in
      rw (number_front (traced (took_by words) n s) k g, bit, plain, e) (omega arith)

  -- after m words have been read from behind, one word more
  pub comes_read : (start m t r w m' : ℕ) → start ≤ n → n ≤ length words → m' ≡ m + 1 → (m < length (behind words start n)) × (w ≡ get_or (behind words start n) m w) →
      ComesTo words n s (n - m) t → r ≡ before t (bit_at w t) → r < 64 → (start + m' ≤ n) × ComesTo words n s (n - m') r
  comes_read start m t r w m' le room e turn c is small =
      let few : m < n - start = omega (arith, turn.0, behind_length words start n room) in
      let here : w ≡ get_or words (n - suc m) 0 = turn.1 ∙ behind_at words start n m w le room few in
      let from : n - m ≡ suc (n - suc m) = omega arith in
      let to : n - m' ≡ n - suc m = omega arith in
      (omega arith, rw to (comes_more (n - suc m) t r (rw from at c) (rw here at is) small))

  pub bits_read : (m t v m' : ℕ) → m < n → m' ≡ m + 1 → ComesTo words n s (n - m) t → v ≡ number_at (traced (took_by words) n s) (n - m) m →
      v * 2 + t % 2 ≡ number_at (traced (took_by words) n s) (n - m') m'
  bits_read m t v m' few e c is =
      let from : n - m ≡ suc (n - suc m) = omega arith in
      let to : n - m' ≡ n - suc m = omega arith in
      let more : m' ≡ suc m = omega arith in
      rw (to, more) (bit_front (n - suc m) m t v (rw from at c) (rw from at is))

  -- further back from there
  pub comes_join : (k t i r : ℕ) → i ≤ k → ComesTo words n s k t → ComesTo words k t i r → ComesTo words n s i r
  comes_join k t i r le c d = record { small = d.small; left = λ j l. c.left j (omega arith) ∙ d.left j l }

  -- an octet that is left to trace is that of the whole message
  pub octet_left : (i t v : ℕ) → ComesTo words n s (8 * i + 8) t → v ≡ octet_of (traced (took_by words) (8 * i + 8) t) i → v ≡ octet_of (traced (took_by words) n s) i
  unfolding octet_of
  octet_left i t v c e = e ∙ number_same (traced (took_by words) (8 * i + 8) t) (traced (took_by words) n s) (8 * i) (8 * i) 8 (λ r l. sym (c.left (8 * i + r) (omega arith)))
