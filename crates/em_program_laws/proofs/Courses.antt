-- Courses: where they end, what they print, and what they leave of the host's files.
--     left m f               the files that a course leaves of these
--     trace_then, trace_stop       one part and then another, by how the first one ends
--     end_then, ok_then, left_then, left_stop, left_done      what follows of the end and of the files
--     IsQuiet Agree A m      no file is replaced, what is printed and the end are the same on files that agree, and no status of its own is 1
--     Gives m text a         it ends with this value and prints this text, on whatever files
--     Keeps name m           it leaves the file of this name
--     Every P m              each value with which it ends is so
--     end_behind, left_behind      what follows behind a part that leaves the files
use Rattle.std.proofs.Common.{◌≡◌, ◌≢◌, ℕ, suc, Bool, true, false, cond, ◌==◌, List, [], ◌∷◌, ◌++◌, length, Option, Some, Result, Ok, Err, refl, sym, ap, subst, ◌∙◌, append-nil, arith}
use Rattle.std.specs.Ordering.{eq_by_cmp}
use Rattle.std.specs.FinMap.{get, insert}
use Rattle.em_base.proofs.Lemmas.{by_cases, order, get_put, same_key, own_key}
use Rattle.em_host.specs.declared.call.Call.TheVariants.{Print}
use Rattle.em_host.specs.Outside.{Files}
use Rattle.em_host.specs.Calls.{files_after, printed_by}
use Rattle.em_host.proofs.Telling.{files_after-append, printed_by-append}
use Rattle.em_workers.specs.Printing.{print, prints}
use Rattle.em_program.specs.declared.verdict.BuildStatus.{BuildStatus}
use Rattle.em_program.specs.Statuses.{code_of}
use Rattle.em_program.specs.Course.{Trace, Course, behind, go_on, ◌>>=◌, done, quit, say, say_all, take, keep, stop}

pub ok_same : {A E : Type 0} {a b : A} → let x : Result A E = Ok a in let y : Result A E = Ok b in x ≡ y → a ≡ b
ok_same e = cc

pub ok_err : {A E : Type 0} {a : A} {e : E} → let x : Result A E = Ok a in let y : Result A E = Err e in x ≡ y → ⊥
ok_err e = cc

pub err_same : {A E : Type 0} {d e : E} → let x : Result A E = Err d in let y : Result A E = Err e in x ≡ y → d ≡ e
err_same e = cc

-- the two cases of a result, each with its equation
pub in_case : {A E : Type 0} (r : Result A E) (P : Type 0) → ((a : A) → r ≡ Ok a → P) → ((e : E) → r ≡ Err e → P) → P
in_case (Ok a) P went not_so = went a refl
in_case (Err e) P went not_so = not_so e refl

abbrev pub left : {A : Type 0} → Course A → Files → Files
left m f = files_after (m f).calls f

-- ---- one part, and then another

module _ {A B : Type 0} (m : Course A) (k : A → Course B) (f : Files) where
  pub trace_then : (a : A) → (m f).end ≡ Ok a → (m >>= k) f ≡ behind (m f).calls (k a (left m f))
  unfolding ◌>>=◌
  trace_then a e = ap (λ (end : Result A BuildStatus). go_on (m f).calls end k f) e

  pub trace_stop : (v : BuildStatus) → (m f).end ≡ Err v → (m >>= k) f ≡ record { calls = (m f).calls; end = Err v }
  unfolding ◌>>=◌
  trace_stop v e = ap (λ (end : Result A BuildStatus). go_on (m f).calls end k f) e

  pub end_then : (R : Result B BuildStatus → Type 0) → ((v : BuildStatus) → (m f).end ≡ Err v → R (Err v)) → ((a : A) → (m f).end ≡ Ok a → R (k a (left m f)).end) → R ((m >>= k) f).end
  end_then R not_so went = in_case (m f).end (R ((m >>= k) f).end)
      (λ a e. subst (λ (t : Trace B). R t.end) (sym (trace_then a e)) (went a e))
      (λ v e. subst (λ (t : Trace B). R t.end) (sym (trace_stop v e)) (not_so v e))

  -- what follows where both came to a value
  pub ok_then : (b : B) (P : Type 0) → ((m >>= k) f).end ≡ Ok b → ((a : A) → (m f).end ≡ Ok a → (k a (left m f)).end ≡ Ok b → P) → P
  ok_then b P e more = end_then (λ r. r ≡ Ok b → P) (λ v _ i. absurd (ok_err (sym i))) (λ a i j. more a i j) e

  pub left_then : (a : A) → (m f).end ≡ Ok a → left (m >>= k) f ≡ left (k a) (left m f)
  left_then a e = ap (λ (t : Trace B). files_after t.calls f) (trace_then a e) ∙ files_after-append (m f).calls (k a (left m f)).calls f

  pub left_stop : (v : BuildStatus) → (m f).end ≡ Err v → left (m >>= k) f ≡ left m f
  left_stop v e = ap (λ (t : Trace B). files_after t.calls f) (trace_stop v e)

  pub printed_then : (a : A) → (m f).end ≡ Ok a → printed_by ((m >>= k) f).calls ≡ printed_by (m f).calls ++ printed_by (k a (left m f)).calls
  printed_then a e = ap (λ (t : Trace B). printed_by t.calls) (trace_then a e) ∙ printed_by-append (m f).calls (k a (left m f)).calls

  pub printed_stop : (v : BuildStatus) → (m f).end ≡ Err v → printed_by ((m >>= k) f).calls ≡ printed_by (m f).calls
  printed_stop v e = ap (λ (t : Trace B). printed_by t.calls) (trace_stop v e)

-- what only works out a value calls nothing
pub left_done : {A B : Type 0} (m : Course A) (h : A → B) (f : Files) → left (m >>= (λ a. done (h a))) f ≡ left m f
unfolding done
left_done m h f = in_case (m f).end _ (λ a e. left_then m (λ a. done (h a)) f a e) (λ v e. left_stop m (λ a. done (h a)) f v e)

-- behind a part that leaves the files as they are
module _ {A B : Type 0} (m : Course A) (k : A → Course B) (f : Files) (a : A) (ends : (m f).end ≡ Ok a) (still : left m f ≡ f) where
  pub end_behind : ((m >>= k) f).end ≡ (k a f).end
  end_behind = ap (λ (t : Trace B). t.end) (trace_then m k f a ends) ∙ ap (λ (g : Files). (k a g).end) still

  pub left_behind : left (m >>= k) f ≡ left (k a) f
  left_behind = left_then m k f a ends ∙ ap (λ (g : Files). left (k a) g) still

-- ---- what is said

print_still : (b : Bool) (text : List ℕ) (f : Files) → files_after (cond b [] (Print text ∷ [])) f ≡ f
print_still true text f = refl
print_still false text f = refl

pub say_still : (text : List ℕ) (f : Files) → left (say text) f ≡ f
unfolding say
say_still text f = print_still (length text == 0) text f

prints_still : (texts : List (List ℕ)) (f : Files) → files_after (prints texts) f ≡ f
prints_still [] f = refl
prints_still (t ∷ ts) f = files_after-append (print t) (prints ts) f ∙ ap (λ (g : Files). files_after (prints ts) g) (print_still (length t == 0) t f) ∙ prints_still ts f

pub all_still : (texts : List (List ℕ)) (f : Files) → left (say_all texts) f ≡ f
unfolding say_all
all_still texts f = prints_still texts f

filled : (n : ℕ) → (suc n == 0) ≡ false
filled n = grind arith

printed_text : (text : List ℕ) → printed_by (print text) ≡ text
printed_text [] = refl
printed_text (b ∷ bs) = ap (λ c. printed_by (cond c [] (Print (b ∷ bs) ∷ []))) (filled (length bs)) ∙ append-nil (b ∷ bs)

pub stop_left : (A : Type 0) (text : List ℕ) (v : BuildStatus) (f : Files) → left (stop {A = A} text v) f ≡ f
unfolding say quit
stop_left A text v f = left_then (say text) (λ u. quit {A = A} v) f tt refl ∙ say_still text f

pub stop_end : (A : Type 0) (text : List ℕ) (v : BuildStatus) (f : Files) → (stop {A = A} text v f).end ≡ Err v
unfolding say quit
stop_end A text v f = ap (λ (t : Trace A). t.end) (trace_then (say text) (λ u. quit {A = A} v) f tt refl)

-- ---- no file is replaced

module _ (Agree : Files → Files → Type 0) where
  pub record IsQuiet (A : Type 0) (m : Course A) : Type 0 where
    pub still : (f : Files) → left m f ≡ f
    pub calm : (f : Files) (v : BuildStatus) → (m f).end ≡ Err v → code_of v ≢ 1
    pub printed : (f g : Files) → Agree f g → printed_by (m f).calls ≡ printed_by (m g).calls
    pub same : (f g : Files) → Agree f g → (m f).end ≡ (m g).end

  pub quiet_done : {A : Type 0} (a : A) → IsQuiet A (done a)
  unfolding done
  quiet_done a = record { still = λ f. refl; calm = λ f v e. absurd (ok_err e); printed = λ f g h. refl; same = λ f g h. refl }

  pub quiet_quit : (A : Type 0) (v : BuildStatus) → code_of v ≢ 1 → IsQuiet A (quit v)
  unfolding quit
  quiet_quit A v not_so = record { still = λ f. refl; calm = λ f w e. subst (λ (u : BuildStatus). code_of u ≢ 1) (err_same e) not_so; printed = λ f g h. refl; same = λ f g h. refl }

  pub quiet_say : (text : List ℕ) → IsQuiet (Unit {0}) (say text)
  unfolding say
  quiet_say text = record { still = say_still text; calm = λ f v e. absurd (ok_err e); printed = λ f g h. refl; same = λ f g h. refl }

  pub quiet_take : (name : List ℕ) → ((f g : Files) → Agree f g → get f name ≡ get g name) → IsQuiet (Option (List ℕ)) (take name)
  unfolding take
  quiet_take name sees = record { still = λ f. refl; calm = λ f v e. absurd (ok_err e); printed = λ f g h. refl; same = λ f g h. ap Ok (sees f g h) }

  module _ {A B : Type 0} (m : Course A) (k : A → Course B) (p : IsQuiet A m) (q : (a : A) → IsQuiet B (k a)) where
    agree_left : (f g : Files) → Agree f g → Agree (left m f) (left m g)
    agree_left f g h = subst (λ (u : Files). Agree u (left m g)) (sym (p.still f)) (subst (λ (u : Files). Agree f u) (sym (p.still g)) h)

    still_then : (f : Files) → left (m >>= k) f ≡ f
    still_then f = in_case (m f).end _ (λ a e. left_then m k f a e ∙ (q a).still (left m f) ∙ p.still f) (λ v e. left_stop m k f v e ∙ p.still f)

    printed_same : (f g : Files) → Agree f g → printed_by ((m >>= k) f).calls ≡ printed_by ((m >>= k) g).calls
    printed_same f g h = in_case (m f).end _
        (λ a e.
        printed_then m k f a e
        ∙ ap (λ (t : List ℕ). t ++ printed_by (k a (left m f)).calls) (p.printed f g h)
        ∙ ap (λ (t : List ℕ). printed_by (m g).calls ++ t) ((q a).printed (left m f) (left m g) (agree_left f g h))
        ∙ sym (printed_then m k g a (sym (p.same f g h) ∙ e)))
        (λ v e. printed_stop m k f v e ∙ p.printed f g h ∙ sym (printed_stop m k g v (sym (p.same f g h) ∙ e)))

    end_same : (f g : Files) → Agree f g → ((m >>= k) f).end ≡ ((m >>= k) g).end
    end_same f g h = in_case (m f).end _
        (λ a e.
        ap (λ (t : Trace B). t.end) (trace_then m k f a e)
        ∙ (q a).same (left m f) (left m g) (agree_left f g h)
        ∙ sym (ap (λ (t : Trace B). t.end) (trace_then m k g a (sym (p.same f g h) ∙ e))))
        (λ v e. ap (λ (t : Trace B). t.end) (trace_stop m k f v e) ∙ sym (ap (λ (t : Trace B). t.end) (trace_stop m k g v (sym (p.same f g h) ∙ e))))

    pub quiet_then : IsQuiet B (m >>= k)
    quiet_then = record {
      still = still_then;
      calm = λ f. end_then m k f (λ r. (v : BuildStatus) → r ≡ Err v → code_of v ≢ 1) (λ v e w i. subst (λ (u : BuildStatus). code_of u ≢ 1) (err_same i) (p.calm f v e)) (λ a e. (q a).calm (left m f));
      printed = printed_same;
      same = end_same;
    }

  pub quiet_stop : (A : Type 0) (text : List ℕ) (v : BuildStatus) → code_of v ≢ 1 → IsQuiet A (stop text v)
  quiet_stop A text v not_so = quiet_then (say text) (λ u. quit v) (quiet_say text) (λ u. quiet_quit A v not_so)

  pub quiet_if : {A : Type 0} (b : Bool) (m n : Course A) → IsQuiet A m → IsQuiet A n → IsQuiet A (cond b m n)
  quiet_if true m n p q = p
  quiet_if false m n p q = q

-- ---- what is so of each value

abbrev pub Every : {A : Type 0} → (A → Type 0) → Course A → Type 0
Every {A} P m = (f : Files) (a : A) → (m f).end ≡ Ok a → P a

pub every_after : {A B : Type 0} (Q : A → Type 0) (P : B → Type 0) (m : Course A) (k : A → Course B) → Every Q m → ((a : A) → Q a → Every P (k a)) → Every P (m >>= k)
every_after Q P m k first each f b e = ok_then m k f b (P b) e (λ a i j. each a (first f a i) (left m f) b j)

pub every_then : {A B : Type 0} (P : B → Type 0) (m : Course A) (k : A → Course B) → ((a : A) → Every P (k a)) → Every P (m >>= k)
every_then P m k each f b e = ok_then m k f b (P b) e (λ a i j. each a (left m f) b j)

pub every_done : {A : Type 0} (P : A → Type 0) (a : A) → P a → Every P (done a)
unfolding done
every_done P a is f b e = subst P (ok_same e) is

pub every_stop : {A : Type 0} (P : A → Type 0) (text : List ℕ) (v : BuildStatus) → Every P (stop {A = A} text v)
every_stop {A} P text v f a e = absurd (ok_err (sym e ∙ stop_end A text v f))

pub every_if : {A : Type 0} (P : A → Type 0) (b : Bool) (m n : Course A) → Every P m → Every P n → Every P (cond b m n)
every_if P true m n p q = p
every_if P false m n p q = q

-- ---- a value and a text, on whatever files

pub record Gives {A : Type 0} (m : Course A) (text : List ℕ) (a : A) : Type 0 where
  pub end : (f : Files) → (m f).end ≡ Ok a
  pub printed : (f : Files) → printed_by (m f).calls ≡ text

pub gives_done : {A : Type 0} (a : A) → Gives (done a) [] a
unfolding done
gives_done a = record { end = λ f. refl; printed = λ f. refl }

pub gives_say : (text : List ℕ) → Gives (say text) text tt
unfolding say
gives_say text = record { end = λ f. refl; printed = λ f. printed_text text }

pub gives_all : (texts : List (List ℕ)) → Gives (say_all texts) (printed_by (prints texts)) tt
unfolding say_all
gives_all texts = record { end = λ f. refl; printed = λ f. refl }

pub gives_keep : (name bytes : List ℕ) → Gives (keep name bytes) [] tt
unfolding keep
gives_keep name bytes = record { end = λ f. refl; printed = λ f. refl }

pub gives_if : {A : Type 0} (b : Bool) (m n : Course A) (x y : List ℕ) (a c : A) → Gives m x a → Gives n y c → Gives (cond b m n) (cond b x y) (cond b a c)
gives_if true m n x y a c p q = p
gives_if false m n x y a c p q = q

pub gives_then : {A B : Type 0} (m : Course A) (k : A → Course B) (x y : List ℕ) (a : A) (b : B) → Gives m x a → Gives (k a) y b → Gives (m >>= k) (x ++ y) b
gives_then {A} {B} m k x y a b p q = record {
  end = λ f. ap (λ (t : Trace B). t.end) (trace_then m k f a (p.end f)) ∙ q.end (left m f);
  printed = λ f. printed_then m k f a (p.end f) ∙ ap (λ (t : List ℕ). t ++ printed_by (k a (left m f)).calls) (p.printed f) ∙ ap (λ (t : List ℕ). x ++ t) (q.printed (left m f));
}

-- ---- one file

pub get_own : (f : Files) (name bytes : List ℕ) → get (insert f name bytes) name ≡ Some bytes
get_own f name bytes = get_put f name bytes name ∙ ap (λ b. cond b (Some bytes) (get f name)) (own_key name)

pub get_other : (f : Files) (name bytes other : List ℕ) → other ≢ name → get (insert f name bytes) other ≡ get f other
get_other f name bytes other not_so = by_cases (eq_by_cmp order other name) (λ b. eq_by_cmp order other name ≡ b → get (insert f name bytes) other ≡ get f other)
    (λ _ is. absurd (not_so (same_key other name is)))
    (λ _ isnt. get_put f name bytes other ∙ ap (λ b. cond b (Some bytes) (get f other)) isnt) refl

abbrev pub Keeps : {A : Type 0} → List ℕ → Course A → Type 0
Keeps name m = (f : Files) → get (left m f) name ≡ get f name

pub keeps_then : {A B : Type 0} (name : List ℕ) (m : Course A) (k : A → Course B) → Keeps name m → ((a : A) → Keeps name (k a)) → Keeps name (m >>= k)
keeps_then name m k p q f = in_case (m f).end _
    (λ a e. ap (λ (g : Files). get g name) (left_then m k f a e) ∙ q a (left m f) ∙ p f)
    (λ v e. ap (λ (g : Files). get g name) (left_stop m k f v e) ∙ p f)

pub keeps_done : {A : Type 0} (name : List ℕ) (a : A) → Keeps name (done a)
unfolding done
keeps_done name a f = refl

pub keeps_say : (name text : List ℕ) → Keeps name (say text)
keeps_say name text f = ap (λ (g : Files). get g name) (say_still text f)

pub keeps_keep : (name other bytes : List ℕ) → name ≢ other → Keeps name (keep other bytes)
unfolding keep
keeps_keep name other bytes not_so f = get_other f other bytes name not_so
