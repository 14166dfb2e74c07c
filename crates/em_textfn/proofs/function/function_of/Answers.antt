use Rattle.std.proofs.Common.{◌≡◌, rules, arith, ap, sym}
use Rattle.std.specs.Prelude.{codes}
use Rattle.std.proofs.lemmas.Slice.Eq.{text_from_reads}
use Rattle.em_textfn.specs.Functions.{function_of}
use Rattle.em_textfn.proofs.function.function_of.Goals as goal

pub returns-in-filter : goal.returns-in-filter
returns-in-filter c =
    let e : c.args.name.now ≡ codes "filter" = text_from_reads c.args.name.now (codes "filter") (omega arith) (search rules) in
    sym (ap function_of e)

pub returns-in-patsubst : goal.returns-in-patsubst
returns-in-patsubst c =
    let e : c.args.name.now ≡ codes "patsubst" = text_from_reads c.args.name.now (codes "patsubst") (omega arith) (search rules) in
    sym (ap function_of e)

pub returns-in-lastword : goal.returns-in-lastword
returns-in-lastword c =
    let e : c.args.name.now ≡ codes "lastword" = text_from_reads c.args.name.now (codes "lastword") (omega arith) (search rules) in
    sym (ap function_of e)

pub returns-in-wordlist : goal.returns-in-wordlist
returns-in-wordlist c =
    let e : c.args.name.now ≡ codes "wordlist" = text_from_reads c.args.name.now (codes "wordlist") (omega arith) (search rules) in
    sym (ap function_of e)

pub returns-in-firstword : goal.returns-in-firstword
returns-in-firstword c =
    let e : c.args.name.now ≡ codes "firstword" = text_from_reads c.args.name.now (codes "firstword") (omega arith) (search rules) in
    sym (ap function_of e)

pub returns-in-findstring : goal.returns-in-findstring
returns-in-findstring c =
    let e : c.args.name.now ≡ codes "findstring" = text_from_reads c.args.name.now (codes "findstring") (omega arith) (search rules) in
    sym (ap function_of e)

pub returns-in-102 : goal.returns-in-102
returns-in-102 c =
    let e : c.args.name.now ≡ codes "filter-out" = text_from_reads c.args.name.now (codes "filter-out") (omega arith) (search rules) in
    sym (ap function_of e)
