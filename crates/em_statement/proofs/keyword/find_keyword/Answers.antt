use Rattle.std.proofs.Common.{◌≡◌, rules, arith, ap, sym}
use Rattle.std.specs.Prelude.{codes}
use Rattle.std.proofs.lemmas.Slice.Eq.{text_from_reads}
use Rattle.em_statement.specs.Keywords.{keyword_of}
use Rattle.em_statement.proofs.keyword.find_keyword.Goals as goal

pub returns-in-ifneq : goal.returns-in-ifneq
returns-in-ifneq c =
    let e : c.args.word.now ≡ codes "ifneq" = text_from_reads c.args.word.now (codes "ifneq") (omega arith) (search rules) in
    sym (ap keyword_of e)

pub returns-in-ifdef : goal.returns-in-ifdef
returns-in-ifdef c =
    let e : c.args.word.now ≡ codes "ifdef" = text_from_reads c.args.word.now (codes "ifdef") (omega arith) (search rules) in
    sym (ap keyword_of e)

pub returns-in-endif : goal.returns-in-endif
returns-in-endif c =
    let e : c.args.word.now ≡ codes "endif" = text_from_reads c.args.word.now (codes "endif") (omega arith) (search rules) in
    sym (ap keyword_of e)

pub returns-in-endef : goal.returns-in-endef
returns-in-endef c =
    let e : c.args.word.now ≡ codes "endef" = text_from_reads c.args.word.now (codes "endef") (omega arith) (search rules) in
    sym (ap keyword_of e)

pub returns-in-vpath : goal.returns-in-vpath
returns-in-vpath c =
    let e : c.args.word.now ≡ codes "vpath" = text_from_reads c.args.word.now (codes "vpath") (omega arith) (search rules) in
    sym (ap keyword_of e)

pub returns-in-ifndef : goal.returns-in-ifndef
returns-in-ifndef c =
    let e : c.args.word.now ≡ codes "ifndef" = text_from_reads c.args.word.now (codes "ifndef") (omega arith) (search rules) in
    sym (ap keyword_of e)

pub returns-in-define : goal.returns-in-define
returns-in-define c =
    let e : c.args.word.now ≡ codes "define" = text_from_reads c.args.word.now (codes "define") (omega arith) (search rules) in
    sym (ap keyword_of e)

pub returns-in-export : goal.returns-in-export
returns-in-export c =
    let e : c.args.word.now ≡ codes "export" = text_from_reads c.args.word.now (codes "export") (omega arith) (search rules) in
    sym (ap keyword_of e)

pub returns-in-include : goal.returns-in-include
returns-in-include c =
    let e : c.args.word.now ≡ codes "include" = text_from_reads c.args.word.now (codes "include") (omega arith) (search rules) in
    sym (ap keyword_of e)

pub returns-in-private : goal.returns-in-private
returns-in-private c =
    let e : c.args.word.now ≡ codes "private" = text_from_reads c.args.word.now (codes "private") (omega arith) (search rules) in
    sym (ap keyword_of e)

pub returns-in-undefine : goal.returns-in-undefine
returns-in-undefine c =
    let e : c.args.word.now ≡ codes "undefine" = text_from_reads c.args.word.now (codes "undefine") (omega arith) (search rules) in
    sym (ap keyword_of e)

pub returns-in-unexport : goal.returns-in-unexport
returns-in-unexport c =
    let e : c.args.word.now ≡ codes "unexport" = text_from_reads c.args.word.now (codes "unexport") (omega arith) (search rules) in
    sym (ap keyword_of e)

pub returns-in-override : goal.returns-in-override
returns-in-override c =
    let e : c.args.word.now ≡ codes "override" = text_from_reads c.args.word.now (codes "override") (omega arith) (search rules) in
    sym (ap keyword_of e)

pub returns-in-sinclude : goal.returns-in-sinclude
returns-in-sinclude c =
    let e : c.args.word.now ≡ codes "sinclude" = text_from_reads c.args.word.now (codes "sinclude") (omega arith) (search rules) in
    sym (ap keyword_of e)

pub returns-in-45 : goal.returns-in-45
returns-in-45 c =
    let e : c.args.word.now ≡ codes "-include" = text_from_reads c.args.word.now (codes "-include") (omega arith) (search rules) in
    sym (ap keyword_of e)
