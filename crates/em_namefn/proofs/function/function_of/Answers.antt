use Rattle.std.proofs.Common.{◌≡◌, rules, arith, ap, sym}
use Rattle.std.specs.Prelude.{codes}
use Rattle.std.proofs.lemmas.Slice.Eq.{text_from_reads}
use Rattle.em_namefn.specs.Functions.{function_of}
use Rattle.em_namefn.proofs.function.function_of.Goals as goal

pub returns-in-notdir : goal.returns-in-notdir
returns-in-notdir c =
    let e : c.args.name.now ≡ codes "notdir" = text_from_reads c.args.name.now (codes "notdir") (omega arith) (search rules) in
    sym (ap function_of e)

pub returns-in-suffix : goal.returns-in-suffix
returns-in-suffix c =
    let e : c.args.name.now ≡ codes "suffix" = text_from_reads c.args.name.now (codes "suffix") (omega arith) (search rules) in
    sym (ap function_of e)

pub returns-in-basename : goal.returns-in-basename
returns-in-basename c =
    let e : c.args.name.now ≡ codes "basename" = text_from_reads c.args.name.now (codes "basename") (omega arith) (search rules) in
    sym (ap function_of e)

pub returns-in-addsuffix : goal.returns-in-addsuffix
returns-in-addsuffix c =
    let e : c.args.name.now ≡ codes "addsuffix" = text_from_reads c.args.name.now (codes "addsuffix") (omega arith) (search rules) in
    sym (ap function_of e)

pub returns-in-addprefix : goal.returns-in-addprefix
returns-in-addprefix c =
    let e : c.args.name.now ≡ codes "addprefix" = text_from_reads c.args.name.now (codes "addprefix") (omega arith) (search rules) in
    sym (ap function_of e)
