use Rattle.std.proofs.Common.{◌≡◌, ℕ, ◌-◌, List, ◌++◌, length, take, drop, Option, OnErr, Result, Ok, Err, sym, ap, subst, ◌∙◌, append_assoc, take-append-drop}
use Rattle.std.proofs.Math.Seq.{take-append_seam}
use Rattle.std.proofs.lemmas.List.{take_rest}
use Rattle.std.specs.Io.KnownBytes.{Appends}
use Rattle.std.proofs.KnownBytes.{Appends-trans, Appends-kept}
use Rattle.em_host.proofs.moving.write_whole.Goals as goal
use Rattle.em_host.proofs.moving.write_whole.Goals.{in-Ok, in-Err+in_ok-go_on_after-in-Err}

-- what was appended is a front of all
front : (a b : Option (List ℕ)) (all done rest : List ℕ) → all ≡ done ++ rest → Appends a b done → (n : ℕ) × Appends a b (take n all)
front a b all done rest split p = (length done, subst (Appends a b) (sym (ap (take (length done)) split ∙ take-append_seam done rest)) p)

moves_front : (all done rest : List ℕ) (n : ℕ) → all ≡ done ++ rest → all ≡ (done ++ take n rest) ++ take (length rest - n) (drop n rest)
moves_front all done rest n e =
    e ∙ ap (λ l. done ++ l) (sym (take-append-drop n rest)) ∙ sym (append_assoc done (take n rest) (drop n rest)) ∙ ap (λ l. (done ++ take n rest) ++ l) (sym (take_rest rest n))

on_err : {E P : Type 0} (r : Result (Unit {0}) E) → P → OnErr r P
on_err (Ok u) p = tt
on_err (Err e) p = p

pub returns-in-Ok-eq0-clause-front : goal.returns-in-Ok-eq0-clause-front
returns-in-Ok-eq0-clause-front g c =
    let (done, split, appended) = c.loop.invariant in
    let none = rw c.in-Ok-eq0.field-0-test at c.in-Ok-eq0.ensures.bytes in
    front _ _ _ (done ++ take 0 c.loop.rest.now) _ (moves_front _ done _ 0 split) (Appends-trans _ _ _ _ _ appended none)

pub returns-in_err-go_on_after-in-Err-clause-front : goal.returns-in_err-go_on_after-in-Err-clause-front
returns-in_err-go_on_after-in-Err-clause-front g c =
    let (done, split, appended) = c.loop.invariant in
    on_err _ (front _ _ _ done _ split (Appends-kept _ _ _ done appended c.in-Err.ensures.bytes))

pub loop-preserved : goal.loop-preserved
loop-preserved g c =
    let (done, split, appended) = c.loop.invariant in
    elim c.match-write.branch [
      | in-Ok w ↦ rw w.rest-is (done ++ take w.in-Ok.n c.loop.rest.now, moves_front _ done _ w.in-Ok.n split, Appends-trans _ _ _ _ _ appended w.in-Ok.ensures.bytes)
      | in-Err+in_ok-go_on_after-in-Err w ↦ rw w.rest-is (done, split, Appends-kept _ _ _ done appended w.in-Err.ensures.bytes)
    ]

pub returns-clause-front : goal.returns-clause-front
returns-clause-front g c =
    let (done, split, appended) = c.loop.invariant in
    front _ _ _ done _ split appended
