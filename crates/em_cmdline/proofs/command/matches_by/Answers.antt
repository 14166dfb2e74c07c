use Rattle.std.proofs.Common.{◌∙◌, map, refl, inr}
use Rattle.clap.specs.Words.{app_of}
use Rattle.em_cmdline.proofs.Clap.{ok_fault, err_fault, ok_found}
use Rattle.em_cmdline.proofs.command.matches_by.Goals as goal

pub returns-in-Ok-clause-ok : goal.returns-in-Ok-clause-ok
returns-in-Ok-clause-ok c =
    let words = map (λ s. s.now) c.args.words.now in
    let app = app_of c.args.command in (
      ok_fault {a = app} {app = app} refl c.requires words c.in-Ok.found c.in-Ok.ensures.kinds,
      ok_found {a = app} {app = app} refl c.requires words c.in-Ok.found c.in-Ok.ensures.matches,
    )

pub returns : goal.returns
returns c =
    let app = app_of c.args.command in
    record {
      ok = tt;
      err = inr (
        refl,
        err_fault {a = app} {app = app} refl c.requires (map (λ s. s.now) c.args.words.now) c.in-Err.e c.in-Err.ensures.kinds (λ is. c.in_default.not-OutOfMemory (c.kind.ensures ∙ is)),
      );
    }
