use Rattle.std.proofs.Common.{◌≡◌, ◌∙◌, ℕ, Bor, Option, Some, None, nat_cmp, get_or, refl, sym, ap, arith}
use Rattle.std.specs.Prelude.{unwrap_or}
use Rattle.std.specs.Ordering.{ordering_then}
use Rattle.std.specs.Option.{option_map}
use Rattle.em_history.proofs.Lines.{ended}
use Rattle.em_history.proofs.pair.compare_ended.Goals as goal

-- the byte at a place, or else the given one
read_or : (r : Option (Bor ℕ)) (d : Bor ℕ) → (unwrap_or r d).now ≡ unwrap_or (option_map (λ (b : Bor ℕ). b.now) r) d.now
read_or None d = refl
read_or (Some b) d = refl

pub returns : goal.returns
returns c =
    let n = c.min-n.result in
    let a = ap (λ (b : Bor ℕ). b.now) c.unwrap_or.ensures ∙ read_or c.get.result _ ∙ c.get.ensures.lookup.4 (omega arith) c.args.end in
    let b = ap (λ (b : Bor ℕ). b.now) c.unwrap_or-2.ensures ∙ read_or c.get-2.result _ ∙ c.get-2.ensures.lookup.4 (omega arith) c.args.end in
    let bytes : c.cmp-2.result ≡ nat_cmp (get_or c.args.a.now n c.args.end) (get_or c.args.b.now n c.args.end) = c.cmp-2.ensures ∙ ap (λ x. nat_cmp x c.unwrap_or-2.result.now) a ∙ ap (nat_cmp (get_or c.args.a.now n c.args.end)) b in
    c.then-2.ensures ∙ ap (λ o. ordering_then o c.cmp-3.result) (c.then.ensures ∙ ap (λ o. ordering_then o c.cmp-2.result) c.cmp.ensures ∙ ap (ordering_then _) bytes) ∙ ap (ordering_then _) c.cmp-3.ensures
    ∙ sym (ended c.args.end c.args.a.now c.args.b.now n c.min-n.ensures)
