use Rattle.std.proofs.Common.{◌≡◌, ℕ, ◌*◌, length, Ok, sym, refl, ap, ◌∙◌}
use Rattle.linecode.specs.Codes.{Code}
use Rattle.frames.specs.Sent.{block_chips}
use Rattle.sender.specs.Sending.{State, blocks_to_send}
use Rattle.sender.specs.Runs.{fresh}
use Rattle.sender.proofs.Filling.{filled_none, CameOn, came_none, came_on, filled_all, checked_ok, whole_answer_lem, whole_chips_lem}
use Rattle.sender.proofs.Steps.{all_blocks}
use Rattle.sender.proofs.whole.send_frame.Given.{Over}
use Rattle.sender.proofs.whole.send_frame.Goals as goal

pub loop-init : goal.loop-init
loop-init g c =
    let start = c.new-cursor.ensures.state in
    record { came = came_none _ _ _ _ start; filled = filled_none _ _ _ _ _ c.args.chips.now start }

-- the chips have room for so many blocks of so many chips
room : (now was blocks size n m : ℕ) → now ≡ was → was ≡ blocks * size → blocks ≡ n → size ≡ m → now ≡ n * m
room now was blocks size n m e w b s = cc

-- a block that is answered brings the cursor on
on : (g : Over) (c : goal.In-Some g) → CameOn (fresh c.args.psdu.now c.args.differential c.args.last) c.loop.cursor c.next_in_frame.new.self
on g c =
    let step = c.in_ok-next_in_frame.ensures in
    came_on (g.L.LineCode.code c.args.line.now) (fresh c.args.psdu.now c.args.differential c.args.last) c.loop.cursor c.next_in_frame.new.self _ c.loop.invariant.came (ap Ok (sym c.in-Some.is) ∙ step.answer) step.state

pub loop-preserved : goal.loop-preserved
loop-preserved g c = record { came = (on g c).came; filled = c.in_ok-next_in_frame.ensures.filled }

pub returns : goal.returns
returns g c =
    let k : Code = g.L.LineCode.code c.args.line.now in
    let start : State = fresh c.args.psdu.now c.args.differential c.args.last in
    let step = c.in_ok-next_in_frame.ensures in
    let none = ap Ok (sym c.in_default.is) ∙ step.answer in
    let can = checked_ok (length c.args.psdu.now) _ c.in_ok-check_psdu.ensures.answer in
    let before : length c.args.chips.now ≡ blocks_to_send (length c.args.psdu.now) * block_chips k
    = room _ _ _ _ _ _ refl c.if-chips-blocks.false c.blocks_to_send-blocks.ensures.value c.block_chips.ensures.answer in
    record {
      answer = ap Ok (c.blocks_to_send-blocks.ensures.value ∙ all_blocks _ can) ∙ sym (whole_answer_lem k start _ can before);
      memory = filled_all k start _ _ _ c.loop.invariant.came none step.state step.filled can (c.next_in_frame.auto.chips ∙ (c.loop.auto.chips ∙ before)) ∙ sym (whole_chips_lem k start c.args.chips.now can before);
    }
