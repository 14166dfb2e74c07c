use Rattle.std.proofs.Common.{◌≡◌, ◌∙◌, ◌+◌, ◌-◌, ◌++◌, ap, sym, length, drop, take, arith}
use Rattle.em_rules.specs.Dots.{undotted}
use Rattle.em_rules.proofs.Undotting.{undotted_rest, rotated}
use Rattle.em_rules.proofs.dots.undot.Goals as goal

pub returns-then-dots-eq0 : goal.returns-then-dots-eq0
returns-then-dots-eq0 c =
    let name = c.args.name in
    let rest : c.undotted.result.now ≡ undotted name = c.undotted.ensures.name ∙ ap undotted c.bytes-2.ensures in
    let none : length name - length (undotted name) ≡ 0 = omega (arith, ap length c.bytes.ensures, ap length rest, c.if-dots-eq0.true) in
    sym (undotted_rest name ∙ ap (λ k. drop k name) none)

pub returns : goal.returns
returns c =
    let name = c.args.name in
    let items = c.into_vec-bytes.result.items in
    let dots = length c.bytes.result.now - length c.undotted.result.now in
    let rest : c.undotted.result.now ≡ undotted name = c.undotted.ensures.name ∙ ap undotted c.bytes-2.ensures in
    let size : c.into_vec-bytes.result.len ≡ length items = sym c.as_mut_slice.ensures.len ∙ ap length c.as_mut_slice.ensures.value in
    let same : length items ≡ length c.bytes.result.now = ap length (c.into_vec-bytes.ensures ∙ sym c.bytes.ensures) in
    let sum : (c.len.result - dots) + dots ≡ c.into_vec-bytes.result.len = omega (arith, c.len.ensures) in
    let k : dots ≡ length name - length (undotted name) = omega (arith, ap length c.bytes.ensures, ap length rest) in
    c.from_vec.ensures ∙ c.truncate.ensures.items
    ∙ rotated items c.rotate_left.new.self c.into_vec-bytes.result.len dots (c.len.result - dots) size sum (c.rotate_left.ensures.after ∙ ap (λ xs. drop dots xs ++ take dots xs) c.as_mut_slice.ensures.value)
    ∙ ap (drop dots) c.into_vec-bytes.ensures ∙ ap (λ n. drop n name) k ∙ sym (undotted_rest name)
