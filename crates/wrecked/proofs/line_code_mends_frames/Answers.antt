-- Every line code of the program is lawful.
use Rattle.std.proofs.Common.{sym, subst}
use Rattle.linecode.specs.Codes.{Lawful}
use Rattle.wrecked.proofs.Few.{few_wrecked_mended}
use Rattle.wrecked.proofs.Unharmed.{sent_unharmed}
use Rattle.wrecked.proofs.line_code_mends_frames.Goals as goal

pub returns : goal.returns
returns g c =
    let lawful = g.L.LineCode.lawful c.args.line.now in
    record {
      few = λ f is. few_wrecked_mended f (subst Lawful (sym is) lawful);
      sent = λ f is. sent_unharmed f (subst Lawful (sym is) lawful);
    }
