-- What a call of a desk comes to, on a state: when it succeeds, and what it leaves.
--     Ends P G r          the call ended with a value that is G, where P, and else with none
--     passed, failed, .._then      the same of one action and then another
--     put_ends, ..        the calls
use Rattle.std.proofs.Common.{◌≡◌, ◌≢◌, ◌⊎◌, inl, inr, ℕ, ◌+◌, ◌-◌, ◌<◌, ◌≤◌, Bool, true, false, cond, ltb, List, [], ◌∷◌, ◌++◌, length, Option, Some, None, Result, Ok, Err, arith, refl, sym, ap, subst, ◌∙◌}
use Rattle.std.proofs.lemmas.Bool.{ltb-true, ltb-false, lt-ltb, le-ltb}
use Rattle.std.specs.Prelude.{option_map, unwrap_or, slice_get}
use Rattle.std.specs.FinMap.{get}
use Rattle.em_base.proofs.Lemmas.{by_cases}
use Rattle.em_path.specs.Paths.{parent_text}
use Rattle.em_tree.specs.declared.node.Kind.{Kind}
use Rattle.em_tree.specs.declared.node.Kind.TheVariants as kind
use Rattle.em_tree.specs.declared.node.Node.{Node}
use Rattle.em_tree.specs.declared.node.Node.TheVariants.{File, Dir, Link}
use Rattle.em_tree.specs.declared.question.Question.{Question}
use Rattle.em_tree.specs.declared.question.Question.TheVariants as question
use Rattle.em_tree.specs.declared.way.Way.{Way}
use Rattle.em_tree.specs.declared.way.Way.TheVariants.{To, TooMany, Bad}
use Rattle.em_tree.specs.declared.way.Led.{Led}
use Rattle.em_tree.specs.declared.state.State.{State}
use Rattle.em_tree.specs.Trees.{kind_of, stamp_of, content_of, link_of}
use Rattle.em_tree.specs.Names.{names_of}
use Rattle.em_tree.proofs.Laying.{over}
use Rattle.em_tree.proofs.Lawful.{get-laid_over}
use Rattle.em_view.specs.declared.no.FileNo.{FileNo}
use Rattle.em_view.specs.declared.no.DeskNo.{DeskNo}
use Rattle.em_view.specs.declared.no.DeskNo.TheVariants as no
use Rattle.em_view.specs.Actions.{Workspace, Oracle, snapshot, Action, go_on, ◌>>=◌, done, fail, ask, mine, spend, ready}
use Rattle.em_view.specs.Names.{with_own, names_size}
use Rattle.em_view.specs.declared.no.FileNo.TheVariants as file
use Rattle.em_view.specs.Walking.{link_by, link_below, resolve, target_by, target}
use Rattle.em_view.specs.Rows.{blocks, size_of, kind_by, kind_below, stamp_by, stamp_below, content_by, content_below, is_dir, told_names, amend, made_names, other_names, names_below, change_number, becomes, after_change, change, number, pay, refuse, look_by, look, put_refusal, dir_refusal, stamped, put_at, put, place_at, place, make_dir_at, make_dir, make_link_at, make_link, names_refusal, take_away, remove_dir, remove_by, remove_under, remove_from, remove, touch_dir, touch_bytes, touch_file, touch_by, touch_at, touch}
use Rattle.em_view.specs.Rows as rows
use Rattle.em_laws.specs.Expanded.{names_by, names_seen}
use Rattle.em_laws.specs.Calls.{with_stamp}
use Rattle.em_view.proofs.Leading.{leads_laid}
use Rattle.em_laws.proofs.Expanding.{kind_there, node_there, led_there, plainly, NoLinks, led_plain}
use Rattle.em_laws.proofs.Changing.{Spot, spot}

abbrev pub Out : Type 0 → Type 0
Out A = Result A DeskNo × Workspace

-- all but fuel and questions is as it was
abbrev pub Still : Workspace → Workspace → Type 0
Still w v = v ≡ record w { fuel = v.fuel; asked = v.asked }

-- a value that is G comes exactly where P; else nothing is changed
pub record Ends {A : Type 0} (w : Workspace) (P : Type 0) (G : A → Workspace → Type 0) (r : Out A) : Type 0 where
  pub it : (P × ((a : A) × (r.0 ≡ Ok a) × G a r.1)) ⊎ ((P → ⊥) × ((a : A) → r.0 ≢ Ok a) × Still w r.1)

ends_as : {A : Type 0} (w : Workspace) (P Q : Type 0) (G H : A → Workspace → Type 0) (r : Out A) → (P → Q) → (Q → P) → ((a : A) (v : Workspace) → G a v → H a v) → Ends w P G r → Ends w Q H r
ends_as {A} w P Q G H r to from give h = elim h.it as (λ _. Ends w Q H r) [
  | inl good ↦ record { it = inl (to good.0, (good.1.0, good.1.1, give good.1.0 r.1 good.1.2)) }
  | inr bad ↦ record { it = inr ((λ q. bad.0 (from q)), bad.1, bad.2) }
]

module _ (s : State) (w : Workspace) where
  abbrev o : Oracle
  o = snapshot s

  abbrev now : ℕ → List Question → Workspace
  now f xs = record w { fuel = f; asked = xs }

  -- ---- one action and then another

  passed : {A B : Type 0} (P : Type 0) (G : B → Workspace → Type 0) (m : Action DeskNo A) (k : A → Action DeskNo B) (v u : Workspace) (a : A) → ◌≡◌ {A = Out A} (m o v) (Ok a, u) → Ends w P G (k a o u) → Ends w P G ((m >>= k) o v)
  unfolding ◌>>=◌
  passed {A} P G m k v u a e h = subst (λ (z : Out A). Ends w P G (go_on z.0 z.1 k o)) (sym e) h

  failed : {A B : Type 0} (P : Type 0) (G : B → Workspace → Type 0) (m : Action DeskNo A) (k : A → Action DeskNo B) (v u : Workspace) (x : DeskNo) → ◌≡◌ {A = Out A} (m o v) (Err x, u) → Still w u → (P → ⊥) → Ends w P G ((m >>= k) o v)
  unfolding ◌>>=◌
  failed {A} P G m k v u x e still not = subst (λ (z : Out A). Ends w P G (go_on z.0 z.1 k o)) (sym e) (record { it = inr (not, λ a f. cc, still) })

  seen : {A : Type 0} (P : Type 0) (G : A → Workspace → Type 0) (m : Action DeskNo A) (v u : Workspace) (a : A) → ◌≡◌ {A = Out A} (m o v) (Ok a, u) → P → G a u → Ends w P G (m o v)
  seen {A} P G m v u a e fine g = subst (λ (z : Out A). Ends w P G z) (sym e) (record { it = inl (fine, (a, refl, g)) })

  -- ---- fuel

  ready_is : (f : ℕ) (xs : List Question) → 0 < f → ◌≡◌ {A = Out (Unit {0})} (ready o (now f xs)) (Ok tt, now f xs)
  unfolding ready
  ready_is f xs h = ap (λ (b : Bool). (let r : Out (Unit {0}) = (cond b (Err no.Spent) (Ok tt), now f xs) in r)) (le-ltb f 1 (omega arith))

  ready_no : (f : ℕ) (xs : List Question) → f < 1 → ◌≡◌ {A = Out (Unit {0})} (ready o (now f xs)) (Err no.Spent, now f xs)
  unfolding ready
  ready_no f xs h = ap (λ (b : Bool). (let r : Out (Unit {0}) = (cond b (Err no.Spent) (Ok tt), now f xs) in r)) (lt-ltb f 1 h)

  spend_is : (n f : ℕ) (xs : List Question) → n ≤ f → ◌≡◌ {A = Out (Unit {0})} (spend n o (now f xs)) (Ok tt, now (f - n) xs)
  unfolding spend
  spend_is n f xs h = ap (λ (b : Bool). (let r : Out (Unit {0}) = cond b (Err no.Spent, now f xs) (Ok tt, now (f - n) xs) in r)) (le-ltb f n h)

  spend_no : (n f : ℕ) (xs : List Question) → f < n → ◌≡◌ {A = Out (Unit {0})} (spend n o (now f xs)) (Err no.Spent, now f xs)
  unfolding spend
  spend_no n f xs h = ap (λ (b : Bool). (let r : Out (Unit {0}) = cond b (Err no.Spent, now f xs) (Ok tt, now (f - n) xs) in r)) (lt-ltb f n h)

  pay_is : (n f : ℕ) (xs : List Question) → 1 + n ≤ f → ◌≡◌ {A = Out (Unit {0})} (pay n o (now f xs)) (Ok tt, now (f - 1 - n) xs)
  unfolding pay ◌>>=◌
  pay_is n f xs h = ap (λ (z : Out (Unit {0})). go_on z.0 z.1 (λ (u : Unit {0}). spend n) o) (spend_is 1 f xs (omega arith)) ∙ spend_is n (f - 1) xs (omega arith)

  pay_no : (n f : ℕ) (xs : List Question) → f < 1 + n → (g : ℕ) × ◌≡◌ {A = Out (Unit {0})} (pay n o (now f xs)) (Err no.Spent, now g xs)
  unfolding pay ◌>>=◌
  pay_no n f xs h = by_cases (ltb f 1) (λ _. (g : ℕ) × ◌≡◌ {A = Out (Unit {0})} (go_on (spend 1 o (now f xs)).0 (spend 1 o (now f xs)).1 (λ (u : Unit {0}). spend n) o) (Err no.Spent, now g xs))
      (λ low. (f, ap (λ (z : Out (Unit {0})). go_on z.0 z.1 (λ (u : Unit {0}). spend n) o) (spend_no 1 f xs (ltb-true f 1 low))))
      (λ high. let le : 1 ≤ f = ltb-false f 1 high in (f - 1, ap (λ (z : Out (Unit {0})). go_on z.0 z.1 (λ (u : Unit {0}). spend n) o) (spend_is 1 f xs le) ∙ spend_no n (f - 1) xs (omega arith)))

  ready_then : {B : Type 0} (P : Type 0) (G : B → Workspace → Type 0) (f : ℕ) (xs : List Question) (k : Unit {0} → Action DeskNo B) → (P → 0 < f) → (0 < f → Ends w P G (k tt o (now f xs))) → Ends w P G ((ready >>= k) o (now f xs))
  ready_then P G f xs k need go = by_cases (ltb f 1) (λ _. Ends w P G ((ready >>= k) o (now f xs)))
      (λ low. let lt : f < 1 = ltb-true f 1 low in failed P G ready k (now f xs) (now f xs) no.Spent (ready_no f xs lt) refl (λ p. let more : 0 < f = need p in omega arith))
      (λ high. let le : 1 ≤ f = ltb-false f 1 high in let more : 0 < f = omega arith in passed P G ready k (now f xs) (now f xs) tt (ready_is f xs more) (go more))

  spend_then : {B : Type 0} (P : Type 0) (G : B → Workspace → Type 0) (n f : ℕ) (xs : List Question) (k : Unit {0} → Action DeskNo B) → (P → n ≤ f) → (n ≤ f → Ends w P G (k tt o (now (f - n) xs))) → Ends w P G ((spend n >>= k) o (now f xs))
  spend_then P G n f xs k need go = by_cases (ltb f n) (λ _. Ends w P G ((spend n >>= k) o (now f xs)))
      (λ low. let lt : f < n = ltb-true f n low in failed P G (spend n) k (now f xs) (now f xs) no.Spent (spend_no n f xs lt) refl (λ p. let more : n ≤ f = need p in omega arith))
      (λ high. let le : n ≤ f = ltb-false f n high in passed P G (spend n) k (now f xs) (now (f - n) xs) tt (spend_is n f xs le) (go le))

  pay_then : {B : Type 0} (P : Type 0) (G : B → Workspace → Type 0) (n f : ℕ) (xs : List Question) (k : Unit {0} → Action DeskNo B) → (P → 1 + n ≤ f) → (1 + n ≤ f → Ends w P G (k tt o (now (f - 1 - n) xs))) → Ends w P G ((pay n >>= k) o (now f xs))
  pay_then P G n f xs k need go = by_cases (ltb f (1 + n)) (λ _. Ends w P G ((pay n >>= k) o (now f xs)))
      (λ low. let lt : f < 1 + n = ltb-true f (1 + n) low in let spent = pay_no n f xs lt in failed P G (pay n) k (now f xs) (now spent.0 xs) no.Spent spent.1 refl (λ p. let more : 1 + n ≤ f = need p in omega arith))
      (λ high. let le : 1 + n ≤ f = ltb-false f (1 + n) high in passed P G (pay n) k (now f xs) (now (f - 1 - n) xs) tt (pay_is n f xs le) (go le))

  -- ---- refusals

  refuse_then : {B : Type 0} (P : Type 0) (G : B → Workspace → Type 0) (r : Option FileNo) (f : ℕ) (xs : List Question) (k : Unit {0} → Action DeskNo B) → (P → r ≡ None) → (r ≡ None → Ends w P G (k tt o (now f xs))) → Ends w P G ((refuse r >>= k) o (now f xs))
  unfolding done fail
  refuse_then P G None f xs k need go = passed P G (refuse None) k (now f xs) (now f xs) tt refl (go refl)
  refuse_then P G (Some x) f xs k need go = failed P G (refuse (Some x)) k (now f xs) (now f xs) (no.File x) refl refl (λ p. let none : Some x ≡ None = need p in cc)

  -- ---- what is seen

  kind_by_is : (p : List ℕ) (f : ℕ) (xs : List Question) (m : Option (Option Node)) (n : Option Node) → over m (get s.tree p) ≡ n → (ys : List Question) × ◌≡◌ {A = Out Kind} (kind_by m p o (now f xs)) (Ok (kind_of n), now f ys)
  unfolding done ask ◌>>=◌
  kind_by_is p f xs None n e = (xs ++ question.Kind p ∷ [], ap (λ (x : Option Node). (let r : Out Kind = (Ok (kind_of x), now f (xs ++ question.Kind p ∷ [])) in r)) e)
  kind_by_is p f xs (Some c) n e = (xs, ap (λ (x : Option Node). (let r : Out Kind = (Ok (kind_of x), now f xs) in r)) e)

  kind_is : (p : List ℕ) (f : ℕ) (xs : List Question) → (ys : List Question) × ◌≡◌ {A = Out Kind} (kind_below p o (now f xs)) (Ok (kind_there s w.changes p), now f ys)
  unfolding kind_below mine ◌>>=◌
  kind_is p f xs = kind_by_is p f xs (get w.changes p) (node_there s w.changes p) (sym (get-laid_over w.changes s.tree p))

  stamp_by_is : (p : List ℕ) (f : ℕ) (xs : List Question) (m : Option (Option Node)) (n : Option Node) → over m (get s.tree p) ≡ n → (ys : List Question) × ◌≡◌ {A = Out (Option ℕ)} (stamp_by m p o (now f xs)) (Ok (stamp_of n), now f ys)
  unfolding done ask ◌>>=◌
  stamp_by_is p f xs None n e = (xs ++ question.Stamp p ∷ [], ap (λ (x : Option Node). (let r : Out (Option ℕ) = (Ok (stamp_of x), now f (xs ++ question.Stamp p ∷ [])) in r)) e)
  stamp_by_is p f xs (Some c) n e = (xs, ap (λ (x : Option Node). (let r : Out (Option ℕ) = (Ok (stamp_of x), now f xs) in r)) e)

  stamp_is : (p : List ℕ) (f : ℕ) (xs : List Question) → (ys : List Question) × ◌≡◌ {A = Out (Option ℕ)} (stamp_below p o (now f xs)) (Ok (stamp_of (node_there s w.changes p)), now f ys)
  unfolding stamp_below mine ◌>>=◌
  stamp_is p f xs = stamp_by_is p f xs (get w.changes p) (node_there s w.changes p) (sym (get-laid_over w.changes s.tree p))

  abbrev Body : Type 0
  Body = Option (List ℕ)

  content_by_is : (p : List ℕ) (f : ℕ) (xs : List Question) (m : Option (Option Node)) (n : Option Node) → over m (get s.tree p) ≡ n → (ys : List Question) × ◌≡◌ {A = Out Body} (content_by m p o (now f xs)) (Ok (content_of n), now f ys)
  unfolding done ask ◌>>=◌
  content_by_is p f xs None n e = (xs ++ question.Content p ∷ [], ap (λ (x : Option Node). (let r : Out Body = (Ok (content_of x), now f (xs ++ question.Content p ∷ [])) in r)) e)
  content_by_is p f xs (Some c) n e = (xs, ap (λ (x : Option Node). (let r : Out Body = (Ok (content_of x), now f xs) in r)) e)

  content_is : (p : List ℕ) (f : ℕ) (xs : List Question) → (ys : List Question) × ◌≡◌ {A = Out Body} (content_below p o (now f xs)) (Ok (content_of (node_there s w.changes p)), now f ys)
  unfolding content_below mine ◌>>=◌
  content_is p f xs = content_by_is p f xs (get w.changes p) (node_there s w.changes p) (sym (get-laid_over w.changes s.tree p))

  abbrev Listed : Type 0
  Listed = Option (List (List ℕ))

  names_by_is : (p : List ℕ) (f : ℕ) (xs : List Question) (m : Option (Option Node)) → (ys : List Question) × ◌≡◌ {A = Out Listed} (rows.names_by m p o (now f xs)) (Ok (names_by m s w.changes p), now f ys)
  unfolding made_names other_names told_names amend ask done ◌>>=◌
  names_by_is p f xs None = (xs ++ question.Names p ∷ [], refl)
  names_by_is p f xs (Some n) = by_cases (is_dir n) (λ b. (ys : List Question) × ◌≡◌ {A = Out Listed} ((let z : Action DeskNo Listed = cond b (made_names p) (done None) in z) o (now f xs)) (Ok (cond b (Some (with_own w.changes p (unwrap_or (names_of s.tree p) []))) None), now f ys))
      (λ _. (xs ++ question.Names p ∷ [], refl))
      (λ _. (xs, refl))

  names_is : (p : List ℕ) (f : ℕ) (xs : List Question) → (ys : List Question) × ◌≡◌ {A = Out Listed} (names_below p o (now f xs)) (Ok (names_seen s w.changes p), now f ys)
  unfolding names_below mine ◌>>=◌
  names_is p f xs = names_by_is p f xs (get w.changes p)

  link_by_is : (p : List ℕ) (f : ℕ) (xs : List Question) (m : Option (Option Node)) (n : Option Node) → over m (get s.tree p) ≡ n → (ys : List Question) × ◌≡◌ {A = Out Body} (link_by m p o (now f xs)) (Ok (link_of n), now f ys)
  unfolding done ask ◌>>=◌
  link_by_is p f xs None n e = (xs ++ question.Link p ∷ [], ap (λ (x : Option Node). (let r : Out Body = (Ok (link_of x), now f (xs ++ question.Link p ∷ [])) in r)) e)
  link_by_is p f xs (Some c) n e = (xs, ap (λ (x : Option Node). (let r : Out Body = (Ok (link_of x), now f xs) in r)) e)

  link_is : (p : List ℕ) (f : ℕ) (xs : List Question) → (ys : List Question) × ◌≡◌ {A = Out Body} (link_below p o (now f xs)) (Ok (link_of (node_there s w.changes p)), now f ys)
  unfolding link_below mine ◌>>=◌
  link_is p f xs = link_by_is p f xs (get w.changes p) (node_there s w.changes p) (sym (get-laid_over w.changes s.tree p))

  -- ---- where a path leads

  abbrev pub led_at : Bool → List ℕ → Led
  led_at last p = led_there s w.changes last p

  abbrev pub Leads : Bool → List ℕ → List ℕ → ℕ → Type 0
  Leads last p q m = led_at last p ≡ record { way = To q; followed = m }

  resolve_is : (last : Bool) (p : List ℕ) (f : ℕ) (xs : List Question) → (ys : List Question) × ◌≡◌ {A = Out Led} (resolve last p o (now f xs)) (Ok (led_at last p), now f ys)
  resolve_is last p f xs =
      let l = leads_laid s (now f xs) last p in
      let v = (resolve last p o (now f xs)).1 in
      (v.asked, ap (λ (r : Result Led DeskNo). (let z : Out Led = (r, v) in z)) l.0 ∙ ap (λ (u : Workspace). (let z : Out Led = (Ok (led_at last p), u) in z)) l.1)

  abbrev Target : Type 0
  Target = List ℕ × ℕ

  abbrev target_on : Led → Action DeskNo Target
  target_on f = target_by f.way >>= (λ q. done (q, f.followed))

  target_to : (last : Bool) (p q : List ℕ) (m f : ℕ) (xs : List Question) → Leads last p q m → (ys : List Question) × ◌≡◌ {A = Out Target} (target last p o (now f xs)) (Ok (q, m), now f ys)
  unfolding target done ◌>>=◌
  target_to last p q m f xs e = let r = resolve_is last p f xs in
      (r.0, ap (λ (z : Out Led). go_on z.0 z.1 target_on o) r.1 ∙ ap (λ (l : Led). target_on l o (now f r.0)) e)

  target_by_no : (y : Way) (m f : ℕ) (xs : List Question) → ((q : List ℕ) → y ≢ To q) → (x : DeskNo) × ◌≡◌ {A = Out Target} (target_on (record { way = y; followed = m }) o (now f xs)) (Err x, now f xs)
  unfolding done fail ◌>>=◌
  target_by_no (To q) m f xs h = absurd (h q refl)
  target_by_no TooMany m f xs h = (no.File file.TooManyLinks, refl)
  target_by_no Bad m f xs h = (no.File file.LinkPath, refl)

  target_no : (last : Bool) (p : List ℕ) (f : ℕ) (xs : List Question) → ((q : List ℕ) → (led_at last p).way ≢ To q) → (ys : List Question) × (x : DeskNo) × ◌≡◌ {A = Out Target} (target last p o (now f xs)) (Err x, now f ys)
  unfolding target ◌>>=◌
  target_no last p f xs h =
      let r = resolve_is last p f xs in
      let n = target_by_no (led_at last p).way (led_at last p).followed f r.0 h in
      (r.0, n.0, ap (λ (z : Out Led). go_on z.0 z.1 target_on o) r.1 ∙ n.1)

  target_then : {B : Type 0} (P : Type 0) (G : B → Workspace → Type 0) (last : Bool) (p q : List ℕ) (m f : ℕ) (xs : List Question) (k : List ℕ → ℕ → Action DeskNo B) → Leads last p q m → ((ys : List Question) → Ends w P G (k q m o (now f ys)))
      → Ends w P G ((target last p >>= (λ t. k t.0 t.1)) o (now f xs))
  target_then P G last p q m f xs k e go = let t = target_to last p q m f xs e in passed P G (target last p) (λ t. k t.0 t.1) (now f xs) (now f t.0) (q, m) t.1 (go t.0)

  -- a call that changes what stands where a path leads
  at_then : {B : Type 0} (P : Type 0) (G : B → Workspace → Type 0) (last : Bool) (p q : List ℕ) (m : ℕ) (k : List ℕ → ℕ → Action DeskNo B) → Leads last p q m → (P → 0 < w.fuel) → ((ys : List Question) → Ends w P G (k q m o (now w.fuel ys)))
      → Ends w P G ((ready >>= (λ r. target last p >>= (λ t. k t.0 t.1))) o w)
  at_then P G last p q m k e some go = ready_then P G w.fuel w.asked (λ r. target last p >>= (λ t. k t.0 t.1)) some (λ _. target_then P G last p q m w.fuel w.asked k e go)

  -- it leads nowhere
  lost_then : {B : Type 0} (G : B → Workspace → Type 0) (last : Bool) (p : List ℕ) (k : List ℕ → ℕ → Action DeskNo B) → ((q : List ℕ) → (led_at last p).way ≢ To q) → Ends w ⊥ G ((ready >>= (λ r. target last p >>= (λ t. k t.0 t.1))) o w)
  lost_then G last p k h = ready_then ⊥ G w.fuel w.asked (λ r. target last p >>= (λ t. k t.0 t.1)) (λ x. absurd x) (λ _.
      let t = target_no last p w.fuel w.asked h in failed ⊥ G (target last p) (λ t. k t.0 t.1) w (now w.fuel t.0) t.1 t.2 refl (λ x. x))

  -- to a path, or nowhere
  pub leads_or : (last : Bool) (p : List ℕ) (T : Type 0) → ((q : List ℕ) (m : ℕ) → Leads last p q m → T) → (((q : List ℕ) → (led_at last p).way ≢ To q) → T) → T
  leads_or last p T there lost = by_way (led_at last p).way (led_at last p).followed refl
    where
      by_way : (y : Way) (m : ℕ) → led_at last p ≡ record { way = y; followed = m } → T
      by_way (To q) m e = there q m e
      by_way TooMany m e = lost (λ q f. (let no_path : TooMany ≡ To q = sym (ap (λ (l : Led). l.way) e) ∙ f in cc))
      by_way Bad m e = lost (λ q f. (let no_path : Bad ≡ To q = sym (ap (λ (l : Led). l.way) e) ∙ f in cc))

  abbrev At : Type 0
  At = Spot s w.changes

  look_by_is : (p : List ℕ) (q : Option (List ℕ)) (f : ℕ) (xs : List Question) → (ys : List Question) × ◌≡◌ {A = Out At} (look_by q (kind_there s w.changes p) o (now f xs)) (Ok (kind_there s w.changes p, option_map (kind_there s w.changes) q), now f ys)
  unfolding done ◌>>=◌
  look_by_is p None f xs = (xs, refl)
  look_by_is p (Some q) f xs = let a = kind_is q f xs in (a.0, ap (λ (z : Out Kind). go_on z.0 z.1 (λ (x : Kind). (let m : Action DeskNo At = done (kind_there s w.changes p, Some x) in m)) o) a.1)

  look_is : (p : List ℕ) (f : ℕ) (xs : List Question) → (ys : List Question) × ◌≡◌ {A = Out At} (look p o (now f xs)) (Ok (spot s w.changes p), now f ys)
  unfolding look ◌>>=◌
  look_is p f xs =
      let a = kind_is p f xs in
      let b = look_by_is p (parent_text p) f a.0 in
      (b.0, ap (λ (z : Out Kind). go_on z.0 z.1 (λ (x : Kind). look_by (parent_text p) x) o) a.1 ∙ b.1)

  -- ---- a change

  pub record Changed (p : List ℕ) (c : Option Node) (above : Option (List ℕ)) (units : ℕ) (v : Workspace) : Type 0 where
    pub changes : v.changes ≡ becomes p c above (change_number w.base w.job (w.count + 1)) w.changes
    pub paid : w.fuel ≡ v.fuel + (1 + units)
    pub count : v.count ≡ w.count + 1
    pub base : v.base ≡ w.base
    pub job : v.job ≡ w.job
    pub given : v.given ≡ w.given

  abbrev pub next : ℕ
  next = change_number w.base w.job (w.count + 1)

  changed_at : (p : List ℕ) (c : Option Node) (above : Option (List ℕ)) (units f : ℕ) (xs : List Question) → w.fuel ≡ f + (1 + units) → Changed p c above units (after_change p c above (now f xs))
  changed_at p c above units f xs e = record { changes = refl; paid = e; count = refl; base = refl; job = refl; given = refl }

  change_ends : (P : Type 0) (G : Unit {0} → Workspace → Type 0) (p : List ℕ) (c : Option Node) (above : Option (List ℕ)) (units f : ℕ) (xs : List Question) → P → w.fuel ≡ f + (1 + units) → ((v : Workspace) → Changed p c above units v → G tt v) → Ends w P G (change p c above o (now f xs))
  unfolding change
  change_ends P G p c above units f xs fine e give = record { it = inl (fine, (tt, refl, give (after_change p c above (now f xs)) (changed_at p c above units f xs e))) }

  abbrev at_path : List ℕ → Spot s w.changes
  at_path p = spot s w.changes p

  abbrev pub MayPutAt : List ℕ → ℕ → ℕ → Type 0
  MayPutAt q size m = (put_refusal (at_path q).0 (at_path q).1 size ≡ None) × (1 + (blocks size + m) ≤ w.fuel)

  abbrev pub IsPut : List ℕ → List ℕ → ℕ → Unit {0} → Workspace → Type 0
  IsPut q bytes m u v = Changed q (Some (File bytes next)) (stamped (kind_there s w.changes q) (parent_text q)) (blocks (length bytes) + m) v

  put_at_ends : (q bytes : List ℕ) (m : ℕ) (xs : List Question) → Ends w (MayPutAt q (length bytes) m) (IsPut q bytes m) (put_at q m bytes o (now w.fuel xs))
  unfolding put_at number
  put_at_ends q bytes m xs =
      let at = spot s w.changes q in
      let n = blocks (length bytes) + m in
      let P = MayPutAt q (length bytes) m in
      let above = stamped at.0 (parent_text q) in
      let G = IsPut q bytes m in
      let l = look_is q w.fuel xs in
      passed P G (look q) _ (now w.fuel xs) (now w.fuel l.0) at l.1 (
      refuse_then P G (put_refusal at.0 at.1 (length bytes)) w.fuel l.0 _ (λ h. h.0) (λ free.
      pay_then P G n w.fuel l.0 _ (λ h. h.1) (λ enough.
      passed P G number _ (now (w.fuel - 1 - n) l.0) (now (w.fuel - 1 - n) l.0) next refl (
      change_ends P G q (Some (File bytes next)) above n (w.fuel - 1 - n) l.0 (free, enough) (omega arith) (λ v h. h)))))

  -- where the path leads to q, by m links
  pub put_there : (p q bytes : List ℕ) (m : ℕ) → Leads true p q m → Ends w (MayPutAt q (length bytes) m) (IsPut q bytes m) (put p bytes o w)
  unfolding put
  put_there p q bytes m e = at_then (MayPutAt q (length bytes) m) (IsPut q bytes m) true p q m (λ q m. put_at q m bytes) e (λ h. (let le : 1 + (blocks (length bytes) + m) ≤ w.fuel = h.1 in omega arith)) (put_at_ends q bytes m)

  pub put_lost : (p bytes : List ℕ) → ((q : List ℕ) → (led_at true p).way ≢ To q) → Ends w ⊥ (λ (u : Unit {0}) v. ⊥) (put p bytes o w)
  unfolding put
  put_lost p bytes h = lost_then (λ (u : Unit {0}) v. ⊥) true p (λ q m. put_at q m bytes) h

  -- a path that leads to itself
  fewer : (P : Type 0) (n : ℕ) → P × (1 + (n + 0) ≤ w.fuel) → P × (1 + n ≤ w.fuel)
  fewer P n (h, le) = (h, omega arith)

  more : (P : Type 0) (n : ℕ) → P × (1 + n ≤ w.fuel) → P × (1 + (n + 0) ≤ w.fuel)
  more P n (h, le) = (h, omega arith)

  same_cost : (p : List ℕ) (c : Option Node) (above : Option (List ℕ)) (n : ℕ) (v : Workspace) → Changed p c above (n + 0) v → Changed p c above n v
  same_cost p c above n v h = record { changes = h.changes; paid = omega (arith, h.paid); count = h.count; base = h.base; job = h.job; given = h.given }

  pub put_ends : NoLinks s w.changes → (p bytes : List ℕ) → Ends w ((put_refusal (at_path p).0 (at_path p).1 (length bytes) ≡ None) × (1 + blocks (length bytes) ≤ w.fuel))
      (λ (u : Unit {0}) v. Changed p (Some (File bytes next)) (stamped (kind_there s w.changes p) (parent_text p)) (blocks (length bytes)) v) (put p bytes o w)
  put_ends none p bytes =
      let n = blocks (length bytes) in
      let F = put_refusal (at_path p).0 (at_path p).1 (length bytes) ≡ None in
      ends_as w (MayPutAt p (length bytes) 0) (F × (1 + n ≤ w.fuel)) (IsPut p bytes 0) (λ (u : Unit {0}) v. Changed p (Some (File bytes next)) (stamped (kind_there s w.changes p) (parent_text p)) n v) (put p bytes o w) (fewer F n) (more F n)
      (λ u v h. same_cost p (Some (File bytes next)) (stamped (kind_there s w.changes p) (parent_text p)) n v h) (put_there p p bytes 0 (led_plain s w.changes none true p))

  abbrev pub IsPlaced : List ℕ → List ℕ → ℕ → ℕ → Unit {0} → Workspace → Type 0
  IsPlaced q bytes stamp m u v = Changed q (Some (File bytes stamp)) (parent_text q) (blocks (length bytes) + m) v

  place_at_ends : (q bytes : List ℕ) (stamp m : ℕ) (xs : List Question) → Ends w (MayPutAt q (length bytes) m) (IsPlaced q bytes stamp m) (place_at q m bytes stamp o (now w.fuel xs))
  unfolding place_at
  place_at_ends q bytes stamp m xs =
      let at = spot s w.changes q in
      let n = blocks (length bytes) + m in
      let P = MayPutAt q (length bytes) m in
      let G = IsPlaced q bytes stamp m in
      let l = look_is q w.fuel xs in
      passed P G (look q) _ (now w.fuel xs) (now w.fuel l.0) at l.1 (
      refuse_then P G (put_refusal at.0 at.1 (length bytes)) w.fuel l.0 _ (λ h. h.0) (λ free.
      pay_then P G n w.fuel l.0 _ (λ h. h.1) (λ enough.
      change_ends P G q (Some (File bytes stamp)) (parent_text q) n (w.fuel - 1 - n) l.0 (free, enough) (omega arith) (λ v h. h))))

  pub place_there : (p q bytes : List ℕ) (stamp m : ℕ) → Leads false p q m → Ends w (MayPutAt q (length bytes) m) (IsPlaced q bytes stamp m) (place p bytes stamp o w)
  unfolding place
  place_there p q bytes stamp m e = at_then (MayPutAt q (length bytes) m) (IsPlaced q bytes stamp m) false p q m (λ q m. place_at q m bytes stamp) e (λ h. (let le : 1 + (blocks (length bytes) + m) ≤ w.fuel = h.1 in omega arith)) (place_at_ends q bytes stamp m)

  pub place_lost : (p bytes : List ℕ) (stamp : ℕ) → ((q : List ℕ) → (led_at false p).way ≢ To q) → Ends w ⊥ (λ (u : Unit {0}) v. ⊥) (place p bytes stamp o w)
  unfolding place
  place_lost p bytes stamp h = lost_then (λ (u : Unit {0}) v. ⊥) false p (λ q m. place_at q m bytes stamp) h

  pub place_ends : NoLinks s w.changes → (p bytes : List ℕ) (stamp : ℕ) → Ends w ((put_refusal (at_path p).0 (at_path p).1 (length bytes) ≡ None) × (1 + blocks (length bytes) ≤ w.fuel))
      (λ (u : Unit {0}) v. Changed p (Some (File bytes stamp)) (parent_text p) (blocks (length bytes)) v) (place p bytes stamp o w)
  place_ends none p bytes stamp =
      let n = blocks (length bytes) in
      let F = put_refusal (at_path p).0 (at_path p).1 (length bytes) ≡ None in
      ends_as w (MayPutAt p (length bytes) 0) (F × (1 + n ≤ w.fuel)) (IsPlaced p bytes stamp 0) (λ (u : Unit {0}) v. Changed p (Some (File bytes stamp)) (parent_text p) n v) (place p bytes stamp o w) (fewer F n) (more F n)
      (λ u v h. same_cost p (Some (File bytes stamp)) (parent_text p) n v h) (place_there p p bytes stamp 0 (led_plain s w.changes none false p))

  -- ---- make_dir and make_link

  abbrev pub MayMakeAt : List ℕ → ℕ → Type 0
  MayMakeAt q n = (dir_refusal (at_path q).0 (at_path q).1 ≡ None) × (1 + n ≤ w.fuel)

  abbrev pub IsMade : List ℕ → Node → ℕ → Unit {0} → Workspace → Type 0
  IsMade q node n u v = Changed q (Some node) (parent_text q) n v

  make_at_ends : (q : List ℕ) (n : ℕ) (xs : List Question) → Ends w (MayMakeAt q n) (IsMade q (Dir next) n) (make_dir_at q n o (now w.fuel xs))
  unfolding make_dir_at number
  make_at_ends q n xs =
      let at = spot s w.changes q in
      let P = MayMakeAt q n in
      let G = IsMade q (Dir next) n in
      let l = look_is q w.fuel xs in
      passed P G (look q) _ (now w.fuel xs) (now w.fuel l.0) at l.1 (
      refuse_then P G (dir_refusal at.0 at.1) w.fuel l.0 _ (λ h. h.0) (λ free.
      pay_then P G n w.fuel l.0 _ (λ h. h.1) (λ enough.
      passed P G number _ (now (w.fuel - 1 - n) l.0) (now (w.fuel - 1 - n) l.0) next refl (
      change_ends P G q (Some (Dir next)) (parent_text q) n (w.fuel - 1 - n) l.0 (free, enough) (omega arith) (λ v h. h)))))

  pub make_there : (p q : List ℕ) (m : ℕ) → Leads false p q m → Ends w (MayMakeAt q m) (IsMade q (Dir next) m) (make_dir p o w)
  unfolding make_dir
  make_there p q m e = at_then (MayMakeAt q m) (IsMade q (Dir next) m) false p q m make_dir_at e (λ h. (let le : 1 + m ≤ w.fuel = h.1 in omega arith)) (make_at_ends q m)

  pub make_lost : (p : List ℕ) → ((q : List ℕ) → (led_at false p).way ≢ To q) → Ends w ⊥ (λ (u : Unit {0}) v. ⊥) (make_dir p o w)
  unfolding make_dir
  make_lost p h = lost_then (λ (u : Unit {0}) v. ⊥) false p make_dir_at h

  pub make_ends : NoLinks s w.changes → (p : List ℕ) → Ends w ((dir_refusal (at_path p).0 (at_path p).1 ≡ None) × (1 ≤ w.fuel))
      (λ (u : Unit {0}) v. Changed p (Some (Dir next)) (parent_text p) 0 v) (make_dir p o w)
  make_ends none p = ends_as w (MayMakeAt p 0) ((dir_refusal (at_path p).0 (at_path p).1 ≡ None) × (1 ≤ w.fuel)) (IsMade p (Dir next) 0) (λ (u : Unit {0}) v. Changed p (Some (Dir next)) (parent_text p) 0 v) (make_dir p o w)
      (λ h. (h.0, (let le : 1 + 0 ≤ w.fuel = h.1 in omega arith))) (λ h. (h.0, (let le : 1 ≤ w.fuel = h.1 in omega arith))) (λ u v h. h) (make_there p p 0 (led_plain s w.changes none false p))

  link_at_ends : (q text : List ℕ) (m : ℕ) (xs : List Question) → Ends w (MayMakeAt q (blocks (length text) + m)) (IsMade q (Link text next) (blocks (length text) + m)) (make_link_at q m text o (now w.fuel xs))
  unfolding make_link_at number
  link_at_ends q text m xs =
      let at = spot s w.changes q in
      let n = blocks (length text) + m in
      let P = MayMakeAt q n in
      let G = IsMade q (Link text next) n in
      let l = look_is q w.fuel xs in
      passed P G (look q) _ (now w.fuel xs) (now w.fuel l.0) at l.1 (
      refuse_then P G (dir_refusal at.0 at.1) w.fuel l.0 _ (λ h. h.0) (λ free.
      pay_then P G n w.fuel l.0 _ (λ h. h.1) (λ enough.
      passed P G number _ (now (w.fuel - 1 - n) l.0) (now (w.fuel - 1 - n) l.0) next refl (
      change_ends P G q (Some (Link text next)) (parent_text q) n (w.fuel - 1 - n) l.0 (free, enough) (omega arith) (λ v h. h)))))

  pub link_there : (p q text : List ℕ) (m : ℕ) → Leads false p q m → Ends w (MayMakeAt q (blocks (length text) + m)) (IsMade q (Link text next) (blocks (length text) + m)) (make_link p text o w)
  unfolding make_link
  link_there p q text m e = at_then (MayMakeAt q (blocks (length text) + m)) (IsMade q (Link text next) (blocks (length text) + m)) false p q m (λ q m. make_link_at q m text) e (λ h. (let le : 1 + (blocks (length text) + m) ≤ w.fuel = h.1 in omega arith)) (link_at_ends q text m)

  pub link_lost : (p text : List ℕ) → ((q : List ℕ) → (led_at false p).way ≢ To q) → Ends w ⊥ (λ (u : Unit {0}) v. ⊥) (make_link p text o w)
  unfolding make_link
  link_lost p text h = lost_then (λ (u : Unit {0}) v. ⊥) false p (λ q m. make_link_at q m text) h

  -- ---- remove

  abbrev pub IsEmptied : List ℕ → Type 0
  IsEmptied p = kind_there s w.changes p ≡ kind.Dir → names_refusal (names_seen s w.changes p) ≡ None

  abbrev pub RemovableAt : List ℕ → ℕ → Type 0
  RemovableAt p m = (parent_text p ≢ None) × (kind_there s w.changes p ≢ kind.Absent) × IsEmptied p × (1 + m ≤ w.fuel)

  abbrev pub IsTakenAt : List ℕ → ℕ → Unit {0} → Workspace → Type 0
  IsTakenAt p m u v = (above : List ℕ) × (parent_text p ≡ Some above) × Changed p None (Some above) m v

  abbrev pub Removable : List ℕ → Type 0
  Removable p = RemovableAt p 0

  abbrev pub IsTaken : List ℕ → Unit {0} → Workspace → Type 0
  IsTaken p u v = IsTakenAt p 0 u v

  some_parent : (p above : List ℕ) → parent_text p ≡ Some above → parent_text p ≢ None
  some_parent p above e none = let z : Some above ≡ None = sym e ∙ none in cc

  take_ends : (p above : List ℕ) (m : ℕ) (xs : List Question) → parent_text p ≡ Some above → kind_there s w.changes p ≢ kind.Absent → IsEmptied p → Ends w (RemovableAt p m) (IsTakenAt p m) (take_away p above m o (now w.fuel xs))
  unfolding take_away
  take_ends p above m xs up there empty =
      let P = RemovableAt p m in
      let G = IsTakenAt p m in
      pay_then P G m w.fuel xs _ (λ h. h.3) (λ enough.
      change_ends P G p None (Some above) m (w.fuel - 1 - m) xs (some_parent p above up, there, empty, enough) (omega arith) (λ v h. (above, up, h)))

  remove_by_ends : (k : Kind) (p above : List ℕ) (m : ℕ) (xs : List Question) → kind_there s w.changes p ≡ k → parent_text p ≡ Some above → Ends w (RemovableAt p m) (IsTakenAt p m) (remove_by k p above m o (now w.fuel xs))
  unfolding fail remove_dir
  remove_by_ends kind.Absent p above m xs is up = record { it = inr (λ h. h.1 is, λ a e. cc, refl) }
  remove_by_ends kind.File p above m xs is up = take_ends p above m xs up (λ e. let z : kind.File ≡ kind.Absent = sym is ∙ e in cc) (λ e. absurd (let z : kind.File ≡ kind.Dir = sym is ∙ e in cc))
  remove_by_ends kind.Link p above m xs is up = take_ends p above m xs up (λ e. let z : kind.Link ≡ kind.Absent = sym is ∙ e in cc) (λ e. absurd (let z : kind.Link ≡ kind.Dir = sym is ∙ e in cc))
  remove_by_ends kind.Dir p above m xs is up =
      let P = RemovableAt p m in
      let G = IsTakenAt p m in
      let ns = names_is p w.fuel xs in
      passed P G (names_below p) _ (now w.fuel xs) (now w.fuel ns.0) (names_seen s w.changes p) ns.1 (
      refuse_then P G (names_refusal (names_seen s w.changes p)) w.fuel ns.0 _ (λ h. h.2 is) (λ free.
      take_ends p above m ns.0 up (λ e. let z : kind.Dir ≡ kind.Absent = sym is ∙ e in cc) (λ _. free)))

  remove_under_ends : (q : Option (List ℕ)) (p : List ℕ) (m : ℕ) (xs : List Question) → parent_text p ≡ q → Ends w (RemovableAt p m) (IsTakenAt p m) (remove_under q p m o (now w.fuel xs))
  unfolding fail
  remove_under_ends None p m xs up = record { it = inr (λ h. h.0 up, λ a e. cc, refl) }
  remove_under_ends (Some above) p m xs up =
      let k = kind_is p w.fuel xs in
      passed (RemovableAt p m) (IsTakenAt p m) (kind_below p) _ (now w.fuel xs) (now w.fuel k.0) (kind_there s w.changes p) k.1 (remove_by_ends (kind_there s w.changes p) p above m k.0 refl up)

  -- the root is refused, wherever it leads
  pub remove_there : (p q : List ℕ) (m : ℕ) → Leads false p q m → Ends w ((parent_text p ≢ None) × RemovableAt q m) (IsTakenAt q m) (remove p o w)
  unfolding remove fail
  remove_there p q m e =
      let P = (parent_text p ≢ None) × RemovableAt q m in
      ready_then P (IsTakenAt q m) w.fuel w.asked _ (λ h. let le : 1 + m ≤ w.fuel = h.1.3 in omega arith) (λ _. by_parent (parent_text p) refl)
    where
      by_parent : (d : Option (List ℕ)) → parent_text p ≡ d → Ends w ((parent_text p ≢ None) × RemovableAt q m) (IsTakenAt q m) (remove_from d p o w)
      by_parent None up = record { it = inr (λ h. h.0 up, λ a f. cc, refl) }
      by_parent (Some above) up = ends_as w (RemovableAt q m) ((parent_text p ≢ None) × RemovableAt q m) (IsTakenAt q m) (IsTakenAt q m) (remove_from (Some above) p o w) (λ h. (some_parent p above up, h)) (λ h. h.1) (λ u v h. h)
          (target_then (RemovableAt q m) (IsTakenAt q m) false p q m w.fuel w.asked (λ q m. remove_under (parent_text q) q m) e (λ ys. remove_under_ends (parent_text q) q m ys refl))

  pub remove_lost : (p : List ℕ) → ((q : List ℕ) → (led_at false p).way ≢ To q) → Ends w ⊥ (λ (u : Unit {0}) v. ⊥) (remove p o w)
  unfolding remove fail
  remove_lost p h = ready_then ⊥ (λ (u : Unit {0}) v. ⊥) w.fuel w.asked _ (λ x. absurd x) (λ _. by_parent (parent_text p))
    where
      by_parent : (d : Option (List ℕ)) → Ends w ⊥ (λ (u : Unit {0}) v. ⊥) (remove_from d p o w)
      by_parent None = record { it = inr (λ x. x, λ a f. cc, refl) }
      by_parent (Some above) = let t = target_no false p w.fuel w.asked h in failed ⊥ (λ (u : Unit {0}) v. ⊥) (target false p) _ w (now w.fuel t.0) t.1 t.2 refl (λ x. x)

  pub remove_plain : (p : List ℕ) → led_at false p ≡ plainly s w.changes p → Ends w (Removable p) (IsTaken p) (remove p o w)
  remove_plain p plain = ends_as w ((parent_text p ≢ None) × Removable p) (Removable p) (IsTaken p) (IsTaken p) (remove p o w) (λ h. h.1) (λ h. (h.0, h)) (λ u v h. h) (remove_there p p 0 plain)

  pub remove_ends : NoLinks s w.changes → (p : List ℕ) → Ends w (Removable p) (IsTaken p) (remove p o w)
  remove_ends none p = remove_plain p (led_plain s w.changes none false p)

  -- ---- touch

  abbrev pub TouchableAt : List ℕ → ℕ → Type 0
  TouchableAt p m = (kind_there s w.changes p ≢ kind.Absent) × (kind_there s w.changes p ≢ kind.Link) × (1 + m ≤ w.fuel)

  abbrev pub IsTouchedAt : List ℕ → ℕ → Unit {0} → Workspace → Type 0
  IsTouchedAt p m u v = (node : Node) × (node_there s w.changes p ≡ Some node) × Changed p (Some (with_stamp next node)) None m v

  abbrev pub Touchable : List ℕ → Type 0
  Touchable p = (kind_there s w.changes p ≢ kind.Absent) × (1 ≤ w.fuel)

  abbrev pub IsTouched : List ℕ → Unit {0} → Workspace → Type 0
  IsTouched p u v = IsTouchedAt p 0 u v

  touch_dir_ends : (p : List ℕ) (m n : ℕ) (xs : List Question) → node_there s w.changes p ≡ Some (Dir n) → Ends w (TouchableAt p m) (IsTouchedAt p m) (touch_dir p m o (now w.fuel xs))
  unfolding touch_dir number
  touch_dir_ends p m n xs is =
      let P = TouchableAt p m in
      let G = IsTouchedAt p m in
      let there : kind_there s w.changes p ≢ kind.Absent = λ e. (let z : kind.Dir ≡ kind.Absent = sym (ap kind_of is) ∙ e in cc) in
      let no_link : kind_there s w.changes p ≢ kind.Link = λ e. (let z : kind.Dir ≡ kind.Link = sym (ap kind_of is) ∙ e in cc) in
      pay_then P G m w.fuel xs _ (λ h. h.2) (λ enough.
      passed P G number _ (now (w.fuel - 1 - m) xs) (now (w.fuel - 1 - m) xs) next refl (
      change_ends P G p (Some (Dir next)) None m (w.fuel - 1 - m) xs (there, no_link, enough) (omega arith) (λ v h. (Dir n, is, h))))

  touch_bytes_ends : (p bytes : List ℕ) (m n : ℕ) (xs : List Question) → node_there s w.changes p ≡ Some (File bytes n) → Ends w (TouchableAt p m) (IsTouchedAt p m) (touch_bytes (Some bytes) p m o (now w.fuel xs))
  unfolding number
  touch_bytes_ends p bytes m n xs is =
      let P = TouchableAt p m in
      let G = IsTouchedAt p m in
      let there : kind_there s w.changes p ≢ kind.Absent = λ e. (let z : kind.File ≡ kind.Absent = sym (ap kind_of is) ∙ e in cc) in
      let no_link : kind_there s w.changes p ≢ kind.Link = λ e. (let z : kind.File ≡ kind.Link = sym (ap kind_of is) ∙ e in cc) in
      pay_then P G m w.fuel xs _ (λ h. h.2) (λ enough.
      passed P G number _ (now (w.fuel - 1 - m) xs) (now (w.fuel - 1 - m) xs) next refl (
      change_ends P G p (Some (File bytes next)) None m (w.fuel - 1 - m) xs (there, no_link, enough) (omega arith) (λ v h. (File bytes n, is, h))))

  touch_by_ends : (n : Option Node) (p : List ℕ) (m : ℕ) (xs : List Question) → node_there s w.changes p ≡ n → Ends w (TouchableAt p m) (IsTouchedAt p m) (touch_by (kind_of n) p m o (now w.fuel xs))
  unfolding fail touch_file
  touch_by_ends None p m xs is = record { it = inr (λ h. h.0 (ap kind_of is), λ a e. cc, refl) }
  touch_by_ends (Some (Link text n)) p m xs is = record { it = inr (λ h. h.1 (ap kind_of is), λ a e. cc, refl) }
  touch_by_ends (Some (Dir n)) p m xs is = touch_dir_ends p m n xs is
  touch_by_ends (Some (File bytes n)) p m xs is =
      let b = content_is p w.fuel xs in
      passed (TouchableAt p m) (IsTouchedAt p m) (content_below p) _ (now w.fuel xs) (now w.fuel b.0) (content_of (node_there s w.changes p)) b.1
      (subst (λ (c : Option Node). Ends w (TouchableAt p m) (IsTouchedAt p m) (touch_bytes (content_of c) p m o (now w.fuel b.0))) (sym is) (touch_bytes_ends p bytes m n b.0 is))

  touch_at_ends : (p : List ℕ) (m : ℕ) (xs : List Question) → Ends w (TouchableAt p m) (IsTouchedAt p m) (touch_at p m o (now w.fuel xs))
  unfolding touch_at
  touch_at_ends p m xs =
      let k = kind_is p w.fuel xs in
      passed (TouchableAt p m) (IsTouchedAt p m) (kind_below p) _ (now w.fuel xs) (now w.fuel k.0) (kind_there s w.changes p) k.1 (touch_by_ends (node_there s w.changes p) p m k.0 refl)

  pub touch_there : (p q : List ℕ) (m : ℕ) → Leads true p q m → Ends w (TouchableAt q m) (IsTouchedAt q m) (touch p o w)
  unfolding touch
  touch_there p q m e = at_then (TouchableAt q m) (IsTouchedAt q m) true p q m touch_at e (λ h. (let le : 1 + m ≤ w.fuel = h.2 in omega arith)) (touch_at_ends q m)

  pub touch_lost : (p : List ℕ) → ((q : List ℕ) → (led_at true p).way ≢ To q) → Ends w ⊥ (λ (u : Unit {0}) v. ⊥) (touch p o w)
  unfolding touch
  touch_lost p h = lost_then (λ (u : Unit {0}) v. ⊥) true p touch_at h

  pub touch_ends : NoLinks s w.changes → (p : List ℕ) → Ends w (Touchable p) (IsTouched p) (touch p o w)
  touch_ends none p = ends_as w (TouchableAt p 0) (Touchable p) (IsTouched p) (IsTouched p) (touch p o w) (λ h. (h.0, (let le : 1 + 0 ≤ w.fuel = h.2 in omega arith))) (λ h. (h.0, none p, (let le : 1 ≤ w.fuel = h.1 in omega arith))) (λ u v h. h)
      (touch_there p p 0 (led_plain s w.changes none true p))

  -- ---- reading

  -- so many units are gone, and questions were asked
  abbrev pub Told : {A : Type 0} → A → ℕ → A → Workspace → Type 0
  Told a units x v = (x ≡ a) × (w.fuel ≡ v.fuel + (1 + units)) × (v ≡ record w { fuel = v.fuel; asked = v.asked })

  -- a path that leads nowhere is asked nothing
  reading_ends : {A : Type 0} (last : Bool) (p : List ℕ) (to : Way → Action DeskNo A) (cost : A → ℕ → ℕ) (a : A) → ((f : ℕ) (xs : List Question) → (ys : List Question) × ◌≡◌ {A = Out A} (to (led_at last p).way o (now f xs)) (Ok a, now f ys))
      → Ends w (1 + cost a (led_at last p).followed ≤ w.fuel) (Told a (cost a (led_at last p).followed)) ((spend 1 >>= (λ u. resolve last p >>= (λ f. to f.way >>= (λ x. spend (cost x f.followed) >>= (λ v. done x))))) o w)
  unfolding done
  reading_ends last p to cost a told =
      let n = cost a (led_at last p).followed in
      let P = 1 + n ≤ w.fuel in
      let G = Told a n in
      spend_then P G 1 w.fuel w.asked _ (λ h. let le : 1 + n ≤ w.fuel = h in omega arith) (λ some.
      let r = resolve_is last p (w.fuel - 1) w.asked in
      passed P G (resolve last p) _ (now (w.fuel - 1) w.asked) (now (w.fuel - 1) r.0) (led_at last p) r.1 (
      let b = told (w.fuel - 1) r.0 in
      passed P G (to (led_at last p).way) _ (now (w.fuel - 1) r.0) (now (w.fuel - 1) b.0) a b.1 (
      spend_then P G n (w.fuel - 1) b.0 _ (λ h. let le : 1 + n ≤ w.fuel = h in omega arith) (λ enough.
      record { it = inl (omega arith, (a, refl, (refl, omega arith, refl))) }))))

  -- what a path that leads to itself is told to be
  plainly_ends : {A : Type 0} (last : Bool) (p : List ℕ) (to : Way → Action DeskNo A) (cost : A → ℕ → ℕ) (a : A) (n : ℕ) → led_at last p ≡ plainly s w.changes p → cost a 0 ≡ n → ((f : ℕ) (xs : List Question) → (ys : List Question) × ◌≡◌ {A = Out A} (to (To p) o (now f xs)) (Ok a, now f ys))
      → Ends w (1 + n ≤ w.fuel) (Told a n) ((spend 1 >>= (λ u. resolve last p >>= (λ f. to f.way >>= (λ x. spend (cost x f.followed) >>= (λ v. done x))))) o w)
  plainly_ends {A} last p to cost a n plain units told =
      let m = (spend 1 >>= (λ u. resolve last p >>= (λ f. to f.way >>= (λ x. spend (cost x f.followed) >>= (λ v. done x))))) o w in
      let e = reading_ends last p to cost a (subst (λ (l : Led). (f : ℕ) (xs : List Question) → (ys : List Question) × ◌≡◌ {A = Out A} (to l.way o (now f xs)) (Ok a, now f ys)) (sym plain) told) in
      subst (λ (k : ℕ). Ends w (1 + k ≤ w.fuel) (Told a k) m) units (subst (λ (l : Led). Ends w (1 + cost a l.followed ≤ w.fuel) (Told a (cost a l.followed)) m) plain e)

  abbrev kind_behind : Way → Kind
  kind_behind (To q) = kind_there s w.changes q
  kind_behind TooMany = kind.Absent
  kind_behind Bad = kind.Absent

  kind_to_is : (y : Way) (f : ℕ) (xs : List Question) → (ys : List Question) × ◌≡◌ {A = Out Kind} (rows.kind_to y o (now f xs)) (Ok (kind_behind y), now f ys)
  unfolding done
  kind_to_is (To q) f xs = kind_is q f xs
  kind_to_is TooMany f xs = (xs, refl)
  kind_to_is Bad f xs = (xs, refl)

  -- whatever it leads to
  pub kind_any : (p : List ℕ) → Ends w (1 + (led_at true p).followed ≤ w.fuel) (Told (kind_behind (led_at true p).way) (led_at true p).followed) (rows.kind_at p o w)
  unfolding rows.kind_at
  kind_any p = reading_ends true p rows.kind_to (λ k n. n) (kind_behind (led_at true p).way) (kind_to_is (led_at true p).way)

  pub kind_ends : NoLinks s w.changes → (p : List ℕ) → Ends w (1 ≤ w.fuel) (Told (kind_there s w.changes p) 0) (rows.kind_at p o w)
  unfolding rows.kind_at
  kind_ends none p =
      ends_as w (1 + 0 ≤ w.fuel) (1 ≤ w.fuel) (Told (kind_there s w.changes p) 0) (Told (kind_there s w.changes p) 0) (rows.kind_at p o w) (λ h. (let le : 1 + 0 ≤ w.fuel = h in omega arith)) (λ h. (let le : 1 ≤ w.fuel = h in omega arith)) (λ a v h. h)
      (plainly_ends true p rows.kind_to (λ k n. n) (kind_there s w.changes p) 0 (led_plain s w.changes none true p) refl (kind_is p))

  pub stamp_ends : NoLinks s w.changes → (p : List ℕ) → Ends w (1 ≤ w.fuel) (Told (stamp_of (node_there s w.changes p)) 0) (rows.stamp_at p o w)
  unfolding rows.stamp_at
  stamp_ends none p =
      let t = stamp_of (node_there s w.changes p) in
      ends_as w (1 + 0 ≤ w.fuel) (1 ≤ w.fuel) (Told t 0) (Told t 0) (rows.stamp_at p o w) (λ h. (let le : 1 + 0 ≤ w.fuel = h in omega arith)) (λ h. (let le : 1 ≤ w.fuel = h in omega arith)) (λ a v h. h)
      (plainly_ends true p rows.stamp_to (λ k n. n) t 0 (led_plain s w.changes none true p) refl (stamp_is p))

  abbrev pub text_cost : Body → ℕ → ℕ
  text_cost t n = blocks (size_of t) + n

  pub content_ends : NoLinks s w.changes → (p : List ℕ) → Ends w (1 + blocks (size_of (content_of (node_there s w.changes p))) ≤ w.fuel) (Told (content_of (node_there s w.changes p)) (blocks (size_of (content_of (node_there s w.changes p))))) (rows.content p o w)
  unfolding rows.content
  content_ends none p =
      let body = content_of (node_there s w.changes p) in
      plainly_ends true p rows.content_to text_cost body (blocks (size_of body)) (led_plain s w.changes none true p) (omega arith) (content_is p)

  abbrev names_behind : Way → Listed
  names_behind (To q) = names_seen s w.changes q
  names_behind TooMany = None
  names_behind Bad = None

  names_to_is : (y : Way) (f : ℕ) (xs : List Question) → (ys : List Question) × ◌≡◌ {A = Out Listed} (rows.names_to y o (now f xs)) (Ok (names_behind y), now f ys)
  unfolding done
  names_to_is (To q) f xs = names_is q f xs
  names_to_is TooMany f xs = (xs, refl)
  names_to_is Bad f xs = (xs, refl)

  abbrev pub names_cost : Listed → ℕ → ℕ
  names_cost ns n = blocks (names_size ns) + n

  pub names_any : (p : List ℕ) → Ends w (1 + names_cost (names_behind (led_at true p).way) (led_at true p).followed ≤ w.fuel) (Told (names_behind (led_at true p).way) (names_cost (names_behind (led_at true p).way) (led_at true p).followed)) (rows.names p o w)
  unfolding rows.names
  names_any p = reading_ends true p rows.names_to names_cost (names_behind (led_at true p).way) (names_to_is (led_at true p).way)

  pub names_plain : (p : List ℕ) → led_at true p ≡ plainly s w.changes p → Ends w (1 + blocks (names_size (names_seen s w.changes p)) ≤ w.fuel) (Told (names_seen s w.changes p) (blocks (names_size (names_seen s w.changes p)))) (rows.names p o w)
  unfolding rows.names
  names_plain p plain =
      let ns = names_seen s w.changes p in
      plainly_ends true p rows.names_to names_cost ns (blocks (names_size ns)) plain (omega arith) (names_is p)

  pub names_ends : NoLinks s w.changes → (p : List ℕ) → Ends w (1 + blocks (names_size (names_seen s w.changes p)) ≤ w.fuel) (Told (names_seen s w.changes p) (blocks (names_size (names_seen s w.changes p)))) (rows.names p o w)
  names_ends none p = names_plain p (led_plain s w.changes none true p)

  abbrev link_behind : Way → Body
  link_behind (To q) = link_of (node_there s w.changes q)
  link_behind TooMany = None
  link_behind Bad = None

  link_to_is : (y : Way) (f : ℕ) (xs : List Question) → (ys : List Question) × ◌≡◌ {A = Out Body} (rows.link_to y o (now f xs)) (Ok (link_behind y), now f ys)
  unfolding done
  link_to_is (To q) f xs = link_is q f xs
  link_to_is TooMany f xs = (xs, refl)
  link_to_is Bad f xs = (xs, refl)

  pub link_any : (p : List ℕ) → Ends w (1 + text_cost (link_behind (led_at false p).way) (led_at false p).followed ≤ w.fuel) (Told (link_behind (led_at false p).way) (text_cost (link_behind (led_at false p).way) (led_at false p).followed)) (rows.link_at p o w)
  unfolding rows.link_at
  link_any p = reading_ends false p rows.link_to text_cost (link_behind (led_at false p).way) (link_to_is (led_at false p).way)

  -- where no directory above a path is a link
  pub link_told : (p : List ℕ) → led_at false p ≡ plainly s w.changes p → Ends w (1 + blocks (size_of (link_of (node_there s w.changes p))) ≤ w.fuel) (Told (link_of (node_there s w.changes p)) (blocks (size_of (link_of (node_there s w.changes p))))) (rows.link_at p o w)
  unfolding rows.link_at
  link_told p plain =
      let text = link_of (node_there s w.changes p) in
      plainly_ends false p rows.link_to text_cost text (blocks (size_of text)) plain (omega arith) (link_is p)

  pub outcome_ends : (j : ℕ) → Ends w (1 ≤ w.fuel) (Told (slice_get s.outcomes j) 0) (rows.outcome j o w)
  unfolding rows.outcome ask done ◌>>=◌
  outcome_ends j =
      spend_then (1 ≤ w.fuel) (Told (slice_get s.outcomes j) 0) 1 w.fuel w.asked _ (λ h. h) (λ enough.
      record { it = inl (enough, (slice_get s.outcomes j, refl, (refl, omega arith, refl))) })
