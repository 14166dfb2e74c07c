use Rattle.std.proofs.Common.{◌≡◌, rules, arith, ap, sym}
use Rattle.std.specs.Prelude.{codes}
use Rattle.std.proofs.lemmas.Slice.Eq.{text_from_reads}
use Rattle.em_textutil.specs.Utilities.{utility_of}
use Rattle.em_textutil.proofs.name.utility_of.Goals as goal

pub returns-in-printf : goal.returns-in-printf
returns-in-printf c =
    let e : c.args.name.now ≡ codes "printf" = text_from_reads c.args.name.now (codes "printf") (omega arith) (search rules) in
    sym (ap utility_of e)

pub returns-in-basename : goal.returns-in-basename
returns-in-basename c =
    let e : c.args.name.now ≡ codes "basename" = text_from_reads c.args.name.now (codes "basename") (omega arith) (search rules) in
    sym (ap utility_of e)

pub returns-in-dirname : goal.returns-in-dirname
returns-in-dirname c =
    let e : c.args.name.now ≡ codes "dirname" = text_from_reads c.args.name.now (codes "dirname") (omega arith) (search rules) in
    sym (ap utility_of e)
