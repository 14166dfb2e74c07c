-- What reading gives is the report of which the bytes are the text, or their fault.
use Rattle.std.proofs.Common.{◌≡◌, ◌≢◌, ℕ, ◌+◌, ◌<◌, ◌==◌, inl, inr, true, false, cond, List, [], ◌∷◌, ◌++◌, length, take, drop, Result, Ok, Err, refl, sym, ap, subst, ◌∙◌, append_assoc, length-append, arith}
use Rattle.std.proofs.lemmas.Bool.{cases_lt, ne_eqb}
use Rattle.std.proofs.lemmas.List.{append-nil, take_at, take-append-drop, take-take, append_cancel_left}
use Rattle.em_report.specs.declared.report.Report.{Report}
use Rattle.em_report.specs.Reports.{report_text, IsReport, GoesOn, IsFault}
use Rattle.em_report.specs.Parts.{◌>>=◌, Here, here}
use Rattle.em_report.specs.Reading.{next, report_at, reading}
use Rattle.em_report.proofs.Languages.{Took, Stuck, Reads}
use Rattle.em_report.proofs.Wholes.{Whole, report_reads}

-- no report goes on behind the front as the bytes do, or ends there as they do
abbrev Ends : List ℕ → List ℕ → Type 0
Ends front [] = (r : Report) → IsReport r → report_text r ≢ front
Ends front (c ∷ cs) = (r : Report) → IsReport r → (w : List ℕ) → report_text r ≢ front ++ c ∷ w

ended : (front left : List ℕ) → Ends front left → (r : Report) → IsReport r → report_text r ≢ front ++ left
ended front [] none r v e = none r v (e ∙ append-nil front)
ended front (c ∷ cs) none r v e = none r v cs e

-- nothing goes on with the front and one byte more
no_more : (front left : List ℕ) → Ends front left → length front < length (front ++ left) → GoesOn (take (length front + 1) (front ++ left)) → ⊥
no_more front [] none lt on = omega (arith, length-append front [])
no_more front (c ∷ cs) none lt on =
    let one : take (length front + 1) (front ++ c ∷ cs) ≡ front ++ c ∷ [] = ap (take (length front + 1)) (sym (append_assoc front (c ∷ []) cs)) ∙ take_at (front ++ c ∷ []) cs (length front + 1) (length-append front (c ∷ [])) in
    none on.report on.is on.rest (on.begins ∙ ap (λ (t : List ℕ). t ++ on.rest) one ∙ append_assoc front (c ∷ []) on.rest)

-- the front goes on, and no report goes on with the byte behind it
is_fault : (front left more : List ℕ) (r : Report) → IsReport r → report_text r ≡ front ++ more → Ends front left → IsFault (front ++ left) (length front)
is_fault front left more r v goes none = record {
  within = omega (arith, length-append front left);
  before = record { report = r; is = v; rest = more; begins = goes ∙ ap (λ (t : List ℕ). t ++ more) (sym (take_at front left (length front) refl)) };
  ends = no_more front left none;
  no_report = ended front left none;
}

stuck_ends : (h : Here) (at : ℕ) (t : Stuck Whole h at) (left : List ℕ) → t.left ≡ left → Ends t.front left
stuck_ends h at t [] e = λ r v k. t.none r v (0 ∷ []) [] refl (ap (λ (u : List ℕ). u ++ 0 ∷ []) k ∙ ap (λ (u : List ℕ). t.front ++ next u ∷ []) (sym e))
stuck_ends h at t (c ∷ cs) e = λ r v w k. t.none r v [] w refl (append-nil (report_text r) ∙ k ∙ ap (λ (u : List ℕ). t.front ++ next u ∷ w) (sym e))

-- behind a whole report none goes on
took_ends : (h k : Here) (x : Report) (t : Took Whole h x k) (c : ℕ) (cs : List ℕ) → k.rest ≡ c ∷ cs → Ends (report_text x) (c ∷ cs)
took_ends h k x t c cs e r v w g =
    let same : r ≡ x = t.only r v [] w refl (append-nil (report_text r) ∙ g ∙ ap (λ (u : List ℕ). report_text x ++ next u ∷ w) (sym e)) in
    let none : [] ≡ c ∷ w = append_cancel_left (report_text x) [] (c ∷ w) (append-nil (report_text x) ∙ ap report_text (sym same) ∙ g) in cc

abbrev ok : Report → Result Report ℕ
ok r = Ok r

abbrev err : ℕ → Result Report ℕ
err at = Err at

err_is : (x y : ℕ) → err x ≡ err y → x ≡ y
err_is x y e = cc

ok_is : (x y : Report) → ok x ≡ ok y → x ≡ y
ok_is x y e = cc

pub record Answers (bytes : List ℕ) (read : Result Report ℕ) : Type 0 where
  pub ok : (r : Report) → read ≡ Ok r → IsReport r × (report_text r ≡ bytes)
  pub fault : (at : ℕ) → read ≡ Err at → IsFault bytes at

answers : (bytes : List ℕ) (r : Result (Report × Here) ℕ) → Reads Whole (here 0 bytes) r → Answers bytes (r >>= λ x. cond (length x.1.rest == 0) (Ok x.0) (Err x.1.at))
answers bytes (Err at) t = record {
  ok = λ r e. absurd cc;
  fault = λ n e.
      let place : length t.front ≡ n = omega (arith, t.place, err_is at n e) in
      subst (λ (b : List ℕ). IsFault b n) (sym t.taken) (subst (λ k. IsFault (t.front ++ t.left) k) place (is_fault t.front t.left t.more t.value t.valid t.goes (stuck_ends (here 0 bytes) at t t.left refl)));
}
answers bytes (Ok (x, k)) t = by k.rest refl
  where
    by : (rest : List ℕ) → k.rest ≡ rest → Answers bytes (cond (length k.rest == 0) (Ok x) (Err k.at))
    by [] e =
        let empty : (length k.rest == 0) ≡ true = ap (λ (z : List ℕ). length z == 0) e in
        subst (λ b. Answers bytes (cond b (Ok x) (Err k.at))) (sym empty) (record {
          ok = λ r f. let is = ok_is x r f in subst (λ (z : Report). IsReport z × (report_text z ≡ bytes)) is (t.valid, sym (t.taken ∙ ap (λ (z : List ℕ). report_text x ++ z) e ∙ append-nil (report_text x)));
          fault = λ n f. absurd cc;
        })
    by (c ∷ cs) e =
        let more : (length k.rest == 0) ≡ false = ap (λ (z : List ℕ). length z == 0) e ∙ ne_eqb (length (c ∷ cs)) 0 (λ z. omega arith) in
        subst (λ b. Answers bytes (cond b (Ok x) (Err k.at))) (sym more) (record {
          ok = λ r f. absurd cc;
          fault = λ n f.
              let place : length (report_text x) ≡ n = omega (arith, t.place, err_is k.at n f) in
              subst (λ (b : List ℕ). IsFault b n) (ap (λ (z : List ℕ). report_text x ++ z) (sym e) ∙ sym t.taken)
              (subst (λ m. IsFault (report_text x ++ c ∷ cs) m) place (is_fault (report_text x) (c ∷ cs) [] x t.valid (sym (append-nil (report_text x))) (took_ends (here 0 bytes) k x t c cs e)));
        })

pub reading_answers : (bytes : List ℕ) → Answers bytes (reading bytes)
unfolding reading
reading_answers bytes = answers bytes (report_at (here 0 bytes)) (report_reads (here 0 bytes))

-- ---- one report, one fault

-- what goes along all the bytes, and along what was read of them, is what was read
read_one : (r : Report) (res : Result (Report × Here) ℕ) → IsReport r → Reads Whole (here 0 (report_text r)) res → (x : Report) × ((s : Report) → IsReport s → report_text s ≡ report_text r → s ≡ x)
read_one r (Ok (x, k)) v t = (x, λ s w e. by s w e k.rest refl)
  where
    by : (s : Report) → IsReport s → report_text s ≡ report_text r → (rest : List ℕ) → k.rest ≡ rest → s ≡ x
    by s w e [] f = t.only s w (0 ∷ []) [] refl (ap (λ (u : List ℕ). u ++ 0 ∷ []) (e ∙ t.taken ∙ ap (λ (u : List ℕ). report_text x ++ u) f ∙ append-nil (report_text x)) ∙ ap (λ (u : List ℕ). report_text x ++ next u ∷ []) (sym f))
    by s w e (c ∷ cs) f = t.only s w [] cs refl (append-nil (report_text s) ∙ e ∙ t.taken ∙ ap (λ (u : List ℕ). report_text x ++ u) f ∙ ap (λ (u : List ℕ). report_text x ++ next u ∷ cs) (sym f))
read_one r (Err at) v t = absurd (ended t.front t.left (stuck_ends (here 0 (report_text r)) at t t.left refl) r v t.taken)

pub one_report : (r s : Report) → IsReport r → IsReport s → report_text r ≡ report_text s → r ≡ s
one_report r s v w e =
    let one = read_one r (report_at (here 0 (report_text r))) v (report_reads (here 0 (report_text r))) in
    one.1 r v refl ∙ sym (one.1 s w (sym e))

-- what goes on at a place goes on before it
goes_before : (bytes : List ℕ) (a b : ℕ) → a < b → GoesOn (take b bytes) → GoesOn (take (a + 1) bytes)
goes_before bytes a b lt on =
    let front : take (a + 1) (take b bytes) ≡ take (a + 1) bytes = take-take (a + 1) b bytes (omega arith) in
    record {
      report = on.report;
      is = on.is;
      rest = drop (a + 1) (take b bytes) ++ on.rest;
      begins = on.begins ∙ ap (λ (t : List ℕ). t ++ on.rest) (sym (take-append-drop (a + 1) (take b bytes))) ∙ append_assoc (take (a + 1) (take b bytes)) (drop (a + 1) (take b bytes)) on.rest
          ∙ ap (λ (t : List ℕ). t ++ (drop (a + 1) (take b bytes) ++ on.rest)) front;
    }

pub one_fault : (bytes : List ℕ) (a b : ℕ) → IsFault bytes a → IsFault bytes b → a ≡ b
one_fault bytes a b f g =
    elim (cases_lt a b) [
      | inl lt ↦ absurd (f.ends (omega (arith, g.within)) (goes_before bytes a b lt g.before))
      | inr le ↦ elim (cases_lt b a) [
        | inl lt ↦ absurd (g.ends (omega (arith, f.within)) (goes_before bytes b a lt f.before))
        | inr ge ↦ omega arith
      ]
    ]
