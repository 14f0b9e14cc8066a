-- What it is to be nearest to the observed code bits, for a message and for a PSDU.
-- Assumes nothing.
use Rattle.std.specs.Prelude.{◌≡◌, ℕ, ◌*◌, ◌<◌, Bool, true, false, ◌≢◌, List}
use Rattle.codebits.specs.Convolution.{code_bit}
use Rattle.codebits.specs.Message.{IsPsdu, message_bit}
use Rattle.costs.specs.Kind.{Kind, cost_of}
use Rattle.nearest.specs.Messages.{psdu_bits, code_length, ZeroFrom}

-- y has 1 and x has 0 at the latest place where they differ
abbrev pub OneLatest : (ℕ → Bool) → (ℕ → Bool) → Type 0
OneLatest x y = (j : ℕ) × (x j ≡ false) × (y j ≡ true) × ((i : ℕ) → j < i → x i ≡ y i)

-- Of all rivals x is the nearest, and `told` is its cost: no rival is cheaper, and another one as cheap has 1 at the latest bit where the two differ.
pub record Nearest {X C : Type 0} (at_most : C → C → Bool) (Rival : X → Type 0) (bits : X → ℕ → Bool) (cost : X → C) (x : X) (told : C) : Type 0 where
  pub is_rival : Rival x
  pub cost_told : told ≡ cost x
  pub none_cheaper : (y : X) → Rival y → at_most (cost x) (cost y) ≡ true
  pub equal_later : (y : X) → Rival y → y ≢ x → at_most (cost y) (cost x) ≡ true → OneLatest (bits x) (bits y)

module _ {O C : Type 0} (kind : Kind O C) (observed : ℕ → O) where
  -- the cost of a message over n places: nothing, charged with its 2 × n code bits in order
  abbrev pub message_cost : ℕ → (ℕ → Bool) → C
  message_cost n m = cost_of kind observed (code_bit m) (2 * n)

  -- the cost of a PSDU of L octets: nothing, charged with each of its code bits in order
  abbrev pub psdu_cost : ℕ → List ℕ → C
  psdu_cost L p = cost_of kind observed (psdu_bits p) (code_length L)

  -- nearest over n places among the messages that are zero from place e on
  abbrev pub NearestMessage : ℕ → ℕ → (ℕ → Bool) → C → Type 0
  NearestMessage e n m told = Nearest kind.at_most (ZeroFrom e) (λ x. x) (message_cost n) m told

  -- nearest among the PSDUs of L octets
  abbrev pub NearestPsdu : ℕ → List ℕ → C → Type 0
  NearestPsdu L p told = Nearest kind.at_most (IsPsdu L) message_bit (psdu_cost L) p told

-- What was observed has one nearest PSDU of L octets, at one cost.
abbrev pub NearestIsOne : Type 0 → Type 0 → Type 0
NearestIsOne O C =
    (kind : Kind O C) (observed : ℕ → O) (L : ℕ) (p q : List ℕ) (told other : C) →
    NearestPsdu kind observed L p told → NearestPsdu kind observed L q other →
    (p ≡ q) × (told ≡ other)
