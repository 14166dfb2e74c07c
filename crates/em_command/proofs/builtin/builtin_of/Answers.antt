use Rattle.std.proofs.Common.{◌≡◌, rules, arith, ap, sym}
use Rattle.std.specs.Prelude.{codes}
use Rattle.std.proofs.lemmas.Slice.Eq.{text_from_reads}
use Rattle.em_command.specs.Builtins.{builtin_of}
use Rattle.em_command.proofs.builtin.builtin_of.Goals as goal

pub returns-in-export : goal.returns-in-export
returns-in-export c =
    let e : c.args.name.now ≡ codes "export" = text_from_reads c.args.name.now (codes "export") (omega arith) (search rules) in
    sym (ap builtin_of e)

pub returns-in-continue : goal.returns-in-continue
returns-in-continue c =
    let e : c.args.name.now ≡ codes "continue" = text_from_reads c.args.name.now (codes "continue") (omega arith) (search rules) in
    sym (ap builtin_of e)
