-- The links of jobs, made one after another.
use Rattle.std.proofs.Common.{◌≡◌, ℕ, zero, suc, ◌+◌, ◌^◌, ◌<◌, ◌≤◌, ◌==◌, nat_lt, Bool, true, false, cond, ◌&&◌, ◌⊎◌, inl, inr, List, [], ◌∷◌, ◌++◌, length, get_or, take, slice_get, Option, Some, None, refl, sym, ap, subst, ◌∙◌, arith}
use Rattle.std.specs.List.{list_all}
use Rattle.std.proofs.lemmas.Bool.{cases_lt, lt-ltb, le-ltb, eqb-true, ltb-true, and_parts}
use Rattle.std.proofs.lemmas.Bool.Decides.{eqb_tells}
use Rattle.em_report.specs.declared.report.ReportLine.{ReportLine}
use Rattle.em_insight.specs.declared.lead.Lead.{Lead}
use Rattle.em_insight.specs.Each.{Each, Any}
use Rattle.std.specs.Option.{option_map_or}
use Rattle.em_insight.specs.declared.no.InsightNo.TheVariants.{Order, Sum}
use Rattle.em_insight.specs.Jobs.{fuel_at, waits_at, total, out_of_order, is_in_order, refusal, refusal_of}
use Rattle.em_insight.specs.Leads.{none, offered, lesser}
use Rattle.em_insight.specs.Links.{Leads, IsLead, IsLink, Linked}
use Rattle.std.proofs.lemmas.List.{take_more}
use Rattle.em_insight.proofs.Lists.{each_of, each_map, any_split, any_left, any_last}

abbrev pub steps_left : Option ℕ → ℕ
steps_left None = 0
steps_left (Some j) = j + 1

-- ---- what it means that nothing is refused

all_below : (j : ℕ) (ws : List ℕ) → list_all (λ w. nat_lt w j) ws ≡ true → Each (λ w. w < j) ws
all_below j [] h = tt
all_below j (w ∷ ws) h = let p = and_parts (nat_lt w j) (list_all (λ w. nat_lt w j) ws) h in (ltb-true w j p.0, all_below j ws p.1)

pub record InOrder (ls : List ReportLine) (from : ℕ) : Type 0 where
  pub job : (j : ℕ) (l : ReportLine) → slice_get ls j ≡ Some l → l.job ≡ from + j
  pub below : (j : ℕ) → Each (λ w. w < from + j) (waits_at ls j)

in_order : (i : ℕ) (ls : List ReportLine) → out_of_order i ls ≡ None → InOrder ls i
in_order i [] h = record { job = λ j l e. absurd cc; below = λ j. tt }
in_order i (l ∷ ls) h = by (is_in_order i l) refl h (in_order (i + 1) ls)
  where
    some_is : (x y : ReportLine) → Some x ≡ Some y → x ≡ y
    some_is x y e = cc

    by : (b : Bool) → is_in_order i l ≡ b → cond b (out_of_order (i + 1) ls) (Some i) ≡ None → (out_of_order (i + 1) ls ≡ None → InOrder ls (i + 1)) → InOrder (l ∷ ls) i
    by false e h rest = absurd cc
    by true e h rest =
        let p = and_parts (l.job == i) (list_all (λ w. nat_lt w i) l.waits) e in
        let r = rest h in
        record {
          job = job r (eqb-true l.job i p.0);
          below = below r (all_below i l.waits p.1);
        }
      where
        job : InOrder ls (i + 1) → l.job ≡ i → (j : ℕ) (x : ReportLine) → slice_get (l ∷ ls) j ≡ Some x → x.job ≡ i + j
        job r at zero x e = let same : l ≡ x = some_is l x e in omega (arith, at, ap (λ (z : ReportLine). z.job) same)
        job r at (suc j) x e = omega (arith, r.job j x e)

        below : InOrder ls (i + 1) → Each (λ w. w < i) l.waits → (j : ℕ) → Each (λ w. w < i + j) (waits_at (l ∷ ls) j)
        below r at zero = subst (λ z. Each (λ w. w < z) l.waits) (let e : i ≡ i + 0 = omega arith in e) at
        below r at (suc j) = subst (λ z. Each (λ w. w < z) (waits_at ls j)) (let e : i + 1 + j ≡ i + suc j = omega arith in e) (r.below j)

pub record Sound (ls : List ReportLine) : Type 0 where
  pub job : (j : ℕ) (l : ReportLine) → slice_get ls j ≡ Some l → l.job ≡ j
  pub below : (j : ℕ) → Each (λ w. w < j) (waits_at ls j)
  pub few : total ls ≤ 2 ^ 62

pub sound : (ls : List ReportLine) → refusal ls ≡ None → Sound ls
sound ls h = by (out_of_order 0 ls) refl h
  where
    by : (o : Option ℕ) → out_of_order 0 ls ≡ o → refusal ls ≡ None → Sound ls
    by (Some i) e h = absurd (let f : refusal ls ≡ Some (Order i) = ap (λ z. refusal_of z (total ls)) e in cc)
    by None e h =
        let r = in_order 0 ls e in
        let f : refusal_of None (total ls) ≡ None = sym (ap (λ z. refusal_of z (total ls)) e) ∙ h in
        record {
          job = λ j l k. omega (arith, r.job j l k);
          below = λ j. subst (λ z. Each (λ w. w < z) (waits_at ls j)) (let e : 0 + j ≡ j = omega arith in e) (r.below j);
          few = few (nat_lt (2 ^ 62) (total ls)) refl f;
        }
      where
        few : (b : Bool) → nat_lt (2 ^ 62) (total ls) ≡ b → cond b (Some Sum) None ≡ None → total ls ≤ 2 ^ 62
        few true e h = absurd cc
        few false e h = elim (cases_lt (2 ^ 62) (total ls)) [ inl lt ↦ absurd (let t : nat_lt (2 ^ 62) (total ls) ≡ true = lt-ltb (2 ^ 62) (total ls) lt in cc) | inr le ↦ le ]

-- ---- leaders

pub none_leads : (es : List ℕ) (M : ℕ → Type 0) → ((w : ℕ) → M w → ⊥) → IsLead es M none
none_leads es M empty = record { most = λ w m. absurd (empty w m); least = refl }

pub lead_more : (es : List ℕ) (M N : ℕ → Type 0) (j : ℕ) (lead : Lead) → ((w : ℕ) → N w → M w ⊎ (w ≡ j)) → ((w : ℕ) → M w → N w) → N j → IsLead es M lead → IsLead es N (offered lead (get_or es j 0) j)
lead_more es M N j lead split widen own h = by (cases_lt lead.weight (get_or es j 0))
  where
    e : ℕ
    e = get_or es j 0

    greater : lead.weight < get_or es j 0 → IsLead es N (record { weight = get_or es j 0; job = Some j })
    greater lt = record {
      most = λ w n. elim (split w n) [ inl m ↦ omega (arith, h.most w m, lt) | inr is ↦ omega (arith, ap (λ z. get_or es z 0) is) ];
      least = (own, refl, omega (arith, lt), λ w n at. elim (split w n) [ inl m ↦ absurd (omega (arith, h.most w m, lt, at)) | inr is ↦ omega (arith, is) ]);
    }

    most : get_or es j 0 ≤ lead.weight → (w : ℕ) → N w → get_or es w 0 ≤ lead.weight
    most le w n = elim (split w n) [ inl m ↦ h.most w m | inr is ↦ omega (arith, le, ap (λ z. get_or es z 0) is) ]

    kept : get_or es j 0 ≤ lead.weight → (o : Option ℕ) → lead.job ≡ o → ((v : ℕ) → o ≡ Some v → get_or es j 0 ≡ lead.weight → v ≤ j) → IsLead es N lead
    kept le None is least = record { most = most le; least = subst (Leads es N lead.weight) (sym is) (subst (Leads es M lead.weight) is h.least) }
    kept le (Some v) is least =
        let old = subst (Leads es M lead.weight) is h.least in
        record {
          most = most le;
          least = subst (Leads es N lead.weight) (sym is) (
            widen v old.0,
            old.1,
            old.2,
            λ w n at. elim (split w n) [ inl m ↦ old.3 w m at | inr same ↦ (let k : v ≤ j = least v refl (ap (λ z. get_or es z 0) (sym same) ∙ at) in omega (arith, k, same)) ],
          );
        }

    tied : get_or es j 0 ≤ lead.weight → (o : Option ℕ) → lead.job ≡ o → IsLead es N (lesser o (get_or es j 0) j lead)
    tied le None is = kept le None is (λ v e at. absurd cc)
    tied le (Some v) is = elim (eqb_tells (get_or es j 0) lead.weight) [
      | inl at ↦ elim (cases_lt j v) [
        | inl less ↦
            let old = subst (Leads es M lead.weight) is h.least in
            let first : nat_lt j v ≡ true = lt-ltb j v less in
            let new : IsLead es N (record { weight = get_or es j 0; job = Some j }) = record {
              most = λ w n. (let k : get_or es w 0 ≤ lead.weight = most le w n in omega (arith, k, at.1));
              least = (
                own,
                refl,
                omega (arith, old.2, at.1),
                λ w n same. elim (split w n) [
                  | inl m ↦ (let k : v ≤ w = old.3 w m (same ∙ at.1) in omega (arith, k, less))
                  | inr is ↦ omega (arith, is)
                ],
              );
            } in
            subst (λ b. IsLead es N (cond b (record { weight = get_or es j 0; job = Some j }) lead)) (sym (both at.0 first)) new
        | inr more ↦ subst (λ b. IsLead es N (cond b (record { weight = get_or es j 0; job = Some j }) lead)) (sym (second (get_or es j 0 == lead.weight) (le-ltb j v more))) (kept le (Some v) is (λ u e same. (let k : v ≡ u = cc in omega (arith, k, more))))
      ]
      | inr other ↦ subst (λ b. IsLead es N (cond b (record { weight = get_or es j 0; job = Some j }) lead)) (sym (firstly (nat_lt j v) other.0)) (kept le (Some v) is (λ u e same. absurd (other.1 same)))
    ]
      where
        both : {x y : Bool} → x ≡ true → y ≡ true → (x && y) ≡ true
        both e f = rw (e, f) refl

        second : (x : Bool) {y : Bool} → y ≡ false → (x && y) ≡ false
        second true e = e
        second false e = refl

        firstly : {x : Bool} (y : Bool) → x ≡ false → (x && y) ≡ false
        firstly y e = rw e refl

    by : (lead.weight < get_or es j 0) ⊎ (get_or es j 0 ≤ lead.weight) → IsLead es N (offered lead (get_or es j 0) j)
    by (inl lt) = let t : nat_lt lead.weight (get_or es j 0) ≡ true = lt-ltb lead.weight (get_or es j 0) lt in
        subst (λ b. IsLead es N (cond b (record { weight = get_or es j 0; job = Some j }) (lesser lead.job (get_or es j 0) j lead))) (sym t) (greater lt)
    by (inr le) = let t : nat_lt lead.weight (get_or es j 0) ≡ false = le-ltb lead.weight (get_or es j 0) le in
        subst (λ b. IsLead es N (cond b (record { weight = get_or es j 0; job = Some j }) (lesser lead.job (get_or es j 0) j lead))) (sym t) (tied le lead.job refl)

-- ---- one job more

pub total_take : (ls : List ReportLine) (i : ℕ) (l : ReportLine) → slice_get ls i ≡ Some l → total (take (i + 1) ls) ≡ total (take i ls) + l.fuel
total_take ls i l e = subst (λ n. total (take n ls) ≡ total (take i ls) + l.fuel) (let k : suc i ≡ i + 1 = omega arith in k) (by ls i e)
  where
    some_is : (x y : ReportLine) → Some x ≡ Some y → x ≡ y
    some_is x y e = cc

    by : (ls : List ReportLine) (i : ℕ) → slice_get ls i ≡ Some l → total (take (suc i) ls) ≡ total (take i ls) + l.fuel
    by [] i e = absurd cc
    by (x ∷ xs) zero e = let same : x ≡ l = some_is x l e in omega (arith, ap (λ (z : ReportLine). z.fuel) same)
    by (x ∷ xs) (suc i) e = omega (arith, by xs i e)

pub total_front : (ls : List ReportLine) (i : ℕ) → total (take i ls) ≤ total ls
total_front ls zero = omega arith
total_front [] (suc i) = omega arith
total_front (x ∷ xs) (suc i) = omega (arith, total_front xs i)

get_front : {A : Type 0} (xs : List A) (x : A) (j : ℕ) (d : A) → j < length xs → get_or (xs ++ x ∷ []) j d ≡ get_or xs j d
get_front [] x j d h = absurd (omega (arith, h))
get_front (y ∷ ys) x zero d h = refl
get_front (y ∷ ys) x (suc j) d h = get_front ys x j d (omega (arith, h))

get_last : {A : Type 0} (xs : List A) (x : A) (d : A) → get_or (xs ++ x ∷ []) (length xs) d ≡ x
get_last [] x d = refl
get_last (y ∷ ys) x d = get_last ys x d

get_past : (xs : List ℕ) (j : ℕ) → length xs ≤ j → get_or xs j 0 ≡ 0
get_past [] j h = refl
get_past (x ∷ xs) zero h = absurd (omega (arith, h))
get_past (x ∷ xs) (suc j) h = get_past xs j (omega (arith, h))

-- a leader of jobs whose weights stay
lead_stays : (es fs : List ℕ) (M : ℕ → Type 0) (lead : Lead) → ((w : ℕ) → M w → get_or fs w 0 ≡ get_or es w 0) → IsLead es M lead → IsLead fs M lead
lead_stays es fs M lead same h = record { most = λ w m. omega (arith, h.most w m, same w m); least = by lead.job h.least }
  where
    by : (o : Option ℕ) → Leads es M lead.weight o → Leads fs M lead.weight o
    by None h = h
    by (Some v) h = (h.0, same v h.0 ∙ h.1, h.2, λ w m at. h.3 w m (sym (same w m) ∙ at))

pub linked_more : (ls : List ReportLine) (i : ℕ) (es : List ℕ) (before : List (Option ℕ)) (l : ReportLine) (lead : Lead) → refusal ls ≡ None → slice_get ls i ≡ Some l → Linked ls i es before
    → IsLead es (λ w. Any (λ v. v ≡ w) l.waits) lead → Linked ls (i + 1) (es ++ (l.fuel + lead.weight) ∷ []) (before ++ lead.job ∷ [])
linked_more ls i es before l lead ok at h led = record {
  ends = longer es (l.fuel + lead.weight) ∙ ap (λ n. n + 1) h.ends;
  befores = longer before lead.job ∙ ap (λ n. n + 1) h.befores;
  few = few;
  links = links;
}
  where
    s : Sound ls
    s = sound ls ok

    longer : {A : Type 0} (xs : List A) (x : A) → length (xs ++ x ∷ []) ≡ length xs + 1
    longer [] x = omega arith
    longer (y ∷ ys) x = omega (arith, longer ys x)

    weighs : lead.weight ≤ total (take i ls)
    weighs = by lead.job led.least
      where
        by : (o : Option ℕ) → Leads es (λ w. Any (λ v. v ≡ w) l.waits) lead.weight o → lead.weight ≤ total (take i ls)
        by None k = omega (arith, k)
        by (Some v) k = omega (arith, k.1, h.few v)

    few : (j : ℕ) → get_or (es ++ (l.fuel + lead.weight) ∷ []) j 0 ≤ total (take (i + 1) ls)
    few j = elim (cases_lt j (length es)) [
      | inl lt ↦ omega (arith, total_take ls i l at, get_front es (l.fuel + lead.weight) j 0 lt, h.few j)
      | inr le ↦ elim (cases_lt (length es) j) [
        | inl more ↦ omega (arith, get_past (es ++ (l.fuel + lead.weight) ∷ []) j (omega (arith, longer es (l.fuel + lead.weight), more)))
        | inr less ↦ (let same : j ≡ length es = omega (arith, le, less) in
            omega (arith, total_take ls i l at, weighs, ap (λ z. get_or (es ++ (l.fuel + lead.weight) ∷ []) z 0) same, get_last es (l.fuel + lead.weight) 0))
      ]
    ]

    waits_are : (ls : List ReportLine) (i : ℕ) → slice_get ls i ≡ Some l → waits_at ls i ≡ l.waits
    waits_are ls i e = ap (λ o. waits_in o) e
      where
        waits_in : Option ReportLine → List ℕ
        waits_in o = option_map_or (λ (l : ReportLine). l.waits) o []

    fuel_is : (ls : List ReportLine) (i : ℕ) → slice_get ls i ≡ Some l → fuel_at ls i ≡ l.fuel
    fuel_is ls i e = ap (λ o. fuel_in o) e
      where
        fuel_in : Option ReportLine → ℕ
        fuel_in o = option_map_or (λ (l : ReportLine). l.fuel) o 0

    new : List ℕ
    new = es ++ (l.fuel + lead.weight) ∷ []

    links : (j : ℕ) → j < i + 1 → IsLink ls (es ++ (l.fuel + lead.weight) ∷ []) j (get_or (before ++ lead.job ∷ []) j None)
    links j lt = elim (cases_lt j i) [
      | inl less ↦
          let k = h.links j less in
          let old : get_or (before ++ lead.job ∷ []) j None ≡ get_or before j None = get_front before lead.job j None (omega (arith, h.befores, less)) in
          subst (IsLink ls (es ++ (l.fuel + lead.weight) ∷ []) j) (sym old) (record {
            weight = k.weight;
            end = get_front es (l.fuel + lead.weight) j 0 (omega (arith, h.ends, less)) ∙ k.end;
            lead = lead_stays es (es ++ (l.fuel + lead.weight) ∷ []) (λ w. Any (λ v. v ≡ w) (waits_at ls j)) (record { weight = k.weight; job = get_or before j None })
                (λ w a. get_front es (l.fuel + lead.weight) w 0 (omega (arith, h.ends, less, each_of (λ w. w < j) (waits_at ls j) w (s.below j) a))) k.lead;
          })
      | inr le ↦
          let same : j ≡ i = omega (arith, lt, le) in
          let last : get_or (before ++ lead.job ∷ []) j None ≡ lead.job = ap (λ z. get_or (before ++ lead.job ∷ []) z None) (same ∙ sym h.befores) ∙ get_last before lead.job None in
          let mine : waits_at ls j ≡ l.waits = ap (waits_at ls) same ∙ waits_are ls i at in
          subst (IsLink ls (es ++ (l.fuel + lead.weight) ∷ []) j) (sym last) (record {
            weight = lead.weight;
            end = ap (λ z. get_or (es ++ (l.fuel + lead.weight) ∷ []) z 0) (same ∙ sym h.ends) ∙ get_last es (l.fuel + lead.weight) 0 ∙ ap (λ z. z + lead.weight) (sym (ap (fuel_at ls) same ∙ fuel_is ls i at));
            lead = subst (λ ws. IsLead (es ++ (l.fuel + lead.weight) ∷ []) (λ w. Any (λ v. v ≡ w) ws) (record { weight = lead.weight; job = lead.job })) (sym mine)
                (lead_stays es (es ++ (l.fuel + lead.weight) ∷ []) (λ w. Any (λ v. v ≡ w) l.waits) (record { weight = lead.weight; job = lead.job })
                (λ w a. get_front es (l.fuel + lead.weight) w 0 (omega (arith, h.ends, within w (subst (λ ws. Any (λ v. v ≡ w) ws) (sym mine) a) same))) led);
          })
    ]
      where
        within : (w : ℕ) → Any (λ v. v ≡ w) (waits_at ls j) → j ≡ i → w < i
        within w a same = omega (arith, same, each_of (λ w. w < j) (waits_at ls j) w (s.below j) a)

-- ---- as the loops go

pub lead_taken : (es ws : List ℕ) (i : ℕ) (lead : Lead) → i < length ws → IsLead es (λ w. Any (λ v. v ≡ w) (take i ws)) lead
    → IsLead es (λ w. Any (λ v. v ≡ w) (take (i + 1) ws)) (offered lead (get_or es (get_or ws i 0) 0) (get_or ws i 0))
lead_taken es ws i lead lt h =
    lead_more es (λ w. Any (λ v. v ≡ w) (take i ws)) (λ w. Any (λ v. v ≡ w) (take (i + 1) ws)) (get_or ws i 0) lead
    (λ w a. flipped w (any_split (λ v. v ≡ w) (take i ws) (get_or ws i 0) (subst (Any (λ v. v ≡ w)) (take_more ws i 0 lt) a)))
    (λ w a. subst (Any (λ v. v ≡ w)) (sym (take_more ws i 0 lt)) (any_left (λ v. v ≡ w) (take i ws) (get_or ws i 0 ∷ []) a))
    (subst (Any (λ v. v ≡ get_or ws i 0)) (sym (take_more ws i 0 lt)) (any_last (λ v. v ≡ get_or ws i 0) (take i ws) (get_or ws i 0) refl))
    h
  where
    flipped : (w : ℕ) → Any (λ v. v ≡ w) (take i ws) ⊎ (get_or ws i 0 ≡ w) → Any (λ v. v ≡ w) (take i ws) ⊎ (w ≡ get_or ws i 0)
    flipped w (inl a) = inl a
    flipped w (inr e) = inr (sym e)

pub lead_counted : (es : List ℕ) (i job : ℕ) (lead : Lead) → job ≡ i → IsLead es (λ w. w < i) lead → IsLead es (λ w. w < i + 1) (offered lead (get_or es i 0) job)
lead_counted es i job lead is h =
    subst (λ z. IsLead es (λ w. w < i + 1) (offered lead (get_or es i 0) z)) (sym is)
    (lead_more es (λ w. w < i) (λ w. w < i + 1) i lead (λ w lt. elim (cases_lt w i) [ inl less ↦ inl less | inr le ↦ inr (omega (arith, lt, le)) ]) (λ w lt. omega (arith, lt)) (omega arith) h)

-- each element by its place
pub each_at : (P : ℕ → Type 0) (xs : List ℕ) (i : ℕ) → i < length xs → Each P xs → P (get_or xs i 0)
each_at P [] i lt h = absurd (omega (arith, lt))
each_at P (x ∷ xs) zero lt h = h.0
each_at P (x ∷ xs) (suc i) lt h = each_at P xs i (omega (arith, lt)) h.1

-- a job's waits have ends
pub waits_linked : (ls : List ReportLine) (i : ℕ) (es : List ℕ) (before : List (Option ℕ)) (l : ReportLine) → refusal ls ≡ None → slice_get ls i ≡ Some l → Linked ls i es before → Each (λ w. w < length es) l.waits
waits_linked ls i es before l ok at h =
    subst (Each (λ w. w < length es)) (ap (λ o. option_map_or (λ (l : ReportLine). l.waits) o []) at) (each_map (λ w. w < i) (λ w. w < length es) (waits_at ls i) (λ w lt. omega (arith, lt, h.ends)) ((sound ls ok).below i))

-- its end is within the fuel of all jobs
pub end_fits : (ls : List ReportLine) (i : ℕ) (es : List ℕ) (before : List (Option ℕ)) (l : ReportLine) (lead : Lead) → refusal ls ≡ None → slice_get ls i ≡ Some l → Linked ls i es before
    → IsLead es (λ w. Any (λ v. v ≡ w) l.waits) lead → l.fuel + lead.weight ≤ 2 ^ 62
end_fits ls i es before l lead ok at h led = omega (arith, weighs lead.job led.least, total_take ls i l at, total_front ls (i + 1), (sound ls ok).few)
  where
    weighs : (o : Option ℕ) → Leads es (λ w. Any (λ v. v ≡ w) l.waits) lead.weight o → lead.weight ≤ total (take i ls)
    weighs None k = omega (arith, k)
    weighs (Some v) k = omega (arith, k.1, h.few v)

pub none_linked : (ls : List ReportLine) → Linked ls 0 [] []
none_linked ls = record { ends = refl; befores = refl; few = λ j. omega arith; links = λ j lt. absurd (omega (arith, lt)) }

-- a job before another is below it
pub before_below : (ls : List ReportLine) (es : List ℕ) (before : List (Option ℕ)) → refusal ls ≡ None → Linked ls (length ls) es before → (j k : ℕ) → get_or before j None ≡ Some k → k < j
before_below ls es before ok h j k at = elim (cases_lt j (length ls)) [
  | inl lt ↦ (let link = h.links j lt in each_of (λ w. w < j) (waits_at ls j) k ((sound ls ok).below j) (subst (Leads es (λ w. Any (λ v. v ≡ w) (waits_at ls j)) link.weight) at link.lead.least).0)
  | inr le ↦ absurd (let none : get_or before j None ≡ None = past before j (omega (arith, h.befores, le)) in let bad : None ≡ Some k = sym none ∙ at in cc)
]
  where
    past : (xs : List (Option ℕ)) (j : ℕ) → length xs ≤ j → get_or xs j None ≡ None
    past [] j h = refl
    past (x ∷ xs) zero h = absurd (omega (arith, h))
    past (x ∷ xs) (suc j) h = past xs j (omega (arith, h))

pub take_whole : {A : Type 0} (xs : List A) (n : ℕ) → length xs ≤ n → take n xs ≡ xs
take_whole [] zero h = refl
take_whole [] (suc n) h = refl
take_whole (x ∷ xs) zero h = absurd (omega (arith, h))
take_whole {A = A} (x ∷ xs) (suc n) h = ap (λ (ys : List A). x ∷ ys) (take_whole xs n (omega (arith, h)))
