use Rattle.std.proofs.Common.{◌≡◌, rules, arith, ap, sym}
use Rattle.std.specs.Prelude.{codes}
use Rattle.std.proofs.lemmas.Slice.Eq.{text_from_reads}
use Rattle.em_statement.specs.Heads.{is_special}
use Rattle.em_statement.proofs.refusal.is_special.Goals as goal

pub returns-in-46 : goal.returns-in-46
returns-in-46 c =
    let e : c.args.word.now ≡ codes ".DEFAULT" = text_from_reads c.args.word.now (codes ".DEFAULT") (omega arith) (search rules) in
    sym (ap is_special e)

pub returns-in-46-2 : goal.returns-in-46-2
returns-in-46-2 c =
    let e : c.args.word.now ≡ codes ".SECONDEXPANSION" = text_from_reads c.args.word.now (codes ".SECONDEXPANSION") (omega arith) (search rules) in
    sym (ap is_special e)

pub returns-in-46-3 : goal.returns-in-46-3
returns-in-46-3 c =
    let e : c.args.word.now ≡ codes ".LOW_RESOLUTION_TIME" = text_from_reads c.args.word.now (codes ".LOW_RESOLUTION_TIME") (omega arith) (search rules) in
    sym (ap is_special e)

pub returns-in-46-4 : goal.returns-in-46-4
returns-in-46-4 c =
    let e : c.args.word.now ≡ codes ".EXPORT_ALL_VARIABLES" = text_from_reads c.args.word.now (codes ".EXPORT_ALL_VARIABLES") (omega arith) (search rules) in
    sym (ap is_special e)

pub returns-in-46-5 : goal.returns-in-46-5
returns-in-46-5 c =
    let e : c.args.word.now ≡ codes ".ONESHELL" = text_from_reads c.args.word.now (codes ".ONESHELL") (omega arith) (search rules) in
    sym (ap is_special e)

pub returns-in-46-6 : goal.returns-in-46-6
returns-in-46-6 c =
    let e : c.args.word.now ≡ codes ".POSIX" = text_from_reads c.args.word.now (codes ".POSIX") (omega arith) (search rules) in
    sym (ap is_special e)

pub returns-in-46-7 : goal.returns-in-46-7
returns-in-46-7 c =
    let e : c.args.word.now ≡ codes ".NOTINTERMEDIATE" = text_from_reads c.args.word.now (codes ".NOTINTERMEDIATE") (omega arith) (search rules) in
    sym (ap is_special e)
