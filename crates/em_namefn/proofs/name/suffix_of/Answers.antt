use Rattle.std.proofs.Common.{◌∙◌, ◌-◌, ◌<◌, length, drop, sym, ap, arith, length-drop}
use Rattle.std.proofs.lemmas.List.{take_all}
use Rattle.em_namefn.specs.Names.{suffix_in}
use Rattle.em_namefn.proofs.Behind.{n, suffix_there}
use Rattle.em_namefn.proofs.name.suffix_of.Goals as goal

pub returns-else-behind-file : goal.returns-else-behind-file
returns-else-behind-file c =
    let f = c.file_of-file.result.now in
    let at = length f - c.behind-behind.result - 1 in
    let less : n 46 f < length f = omega (arith, c.behind-behind.ensures.count, c.behind-behind.ensures.within, c.if-behind-file.false) in
    take_all (length f - at) (drop at f) (omega (arith, length-drop at f)) ∙ ap (λ k. drop (length f - k - 1) f) c.behind-behind.ensures.count ∙ sym (suffix_there f less) ∙ ap suffix_in c.file_of-file.ensures
