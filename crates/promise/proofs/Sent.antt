-- Where the harm is small, the nearest PSDU is the one that was sent.
-- Assumes nothing.
use Rattle.std.proofs.Common.{◌≡◌, ℕ, List, length, sym, ◌∙◌, mul_assoc}
use Rattle.linecode.specs.Codes.{Code}
use Rattle.codebits.specs.Message.{IsPsdu, blocks}
use Rattle.frames.specs.Sent.{block_groups, frame_chips}
use Rattle.costs.specs.Kind.{Kind}
use Rattle.costs.specs.Kinds.{count_kind, graded_kind}
use Rattle.costs.specs.declared.Observation.{Observation}
use Rattle.exact.specs.Mended.{AloneNearest}
use Rattle.exact.proofs.Alone.{four_wrong_bits_mended, errors_and_erasures_mended}
use Rattle.trellis.specs.Frame.{BlocksRunTheTrellis}
use Rattle.wrecked.specs.Mended.{NearEnough}
use Rattle.wrecked.proofs.Few.{few_wrecked_mended}
use Rattle.receiver.specs.Receiver.{octets, frame_by}
use Rattle.receiver.specs.Runs.{after}
use Rattle.receiver.specs.Book.{Entries, chips_of, book}
use Rattle.receiver.proofs.Promised.{closes_nearest, book_full}
use Rattle.promise.specs.Sent.{seen, FourWrongBits, NineByDoubt, AcceptedClosesReturn}

module _ {C : Type 0} (kind : Kind Observation C) (Near : Code → Entries → List ℕ → Type 0) (runs : BlocksRunTheTrellis kind)
    (by_bits : (k : Code) (b : Entries) (q : List ℕ) → IsPsdu (octets b.header) q → Near k b q → AloneNearest kind (seen k b) (octets b.header) q)
    (by_groups : (observed : ℕ → Observation) (L : ℕ) (q : List ℕ) → NearEnough observed L q → AloneNearest kind observed L q)
  where
    returns : AcceptedClosesReturn kind Near
    returns costs words k lawful cs room told ok =
        let s = after kind costs words cs in
        let b = book (length costs) (length words) cs in
        let got = closes_nearest kind runs k lawful costs words cs room told ok in
        let whole : length (chips_of b) ≡ frame_chips (frame_by k b.header) =
        book_full kind runs k lawful costs words cs room told ok ∙ sym (mul_assoc (blocks (octets b.header)) (block_groups k) k.chips) in
        record {
          returned = got;
          near_by_bits = λ q iq near. (by_bits k b q iq near).returned got.psdu told got.nearest;
          near_by_groups = λ q iq few.
              (by_groups (seen k b) (octets b.header) q (few_wrecked_mended (frame_by k b.header) lawful q (chips_of b) b.header.most iq whole few)).returned got.psdu told got.nearest;
        }

pub count_returns : BlocksRunTheTrellis count_kind → AcceptedClosesReturn count_kind FourWrongBits
count_returns runs = returns count_kind FourWrongBits runs (λ k b q iq near. four_wrong_bits_mended (seen k b) (octets b.header) q b.header.most iq near) (λ o L q near. near.by_count)

pub graded_returns : BlocksRunTheTrellis graded_kind → AcceptedClosesReturn graded_kind NineByDoubt
graded_returns runs = returns graded_kind NineByDoubt runs (λ k b q iq near. errors_and_erasures_mended (seen k b) (octets b.header) q b.header.most iq near) (λ o L q near. near.by_graded)
