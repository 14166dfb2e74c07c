-- What makes no fuel: each part of what is done over a desk.
--     Burns m         behind the action there is at most the fuel that there was, however it ends
--     BurnsAll m      so with the steps, from any state
--     then_burns, all_then      one after another
use Rattle.std.proofs.Common.{◌≤◌, ℕ, ◌+◌, zero, suc, Bool, true, false, cond, List, [], ◌∷◌, ◌++◌, Option, Some, None, Result, Ok, Err, arith}
use Rattle.std.specs.Prelude.{nat_lt, ◌-◌}
use Rattle.em_path.specs.Paths.{parent_text}
use Rattle.em_tree.specs.declared.node.Kind.{Kind}
use Rattle.em_tree.specs.declared.node.Kind.TheVariants as kind
use Rattle.em_tree.specs.declared.node.Node.{Node}
use Rattle.em_glob.specs.declared.glyph.Glyph.{Glyph}
use Rattle.em_glob.specs.Patterns.{is_pattern}
use Rattle.em_pathname.specs.Walking.{components, start, search, look_up_by, look_up, in_dir, in_each, walk, matching_names}
use Rattle.em_view.specs.declared.no.FileNo.{FileNo}
use Rattle.em_view.specs.declared.no.DeskNo.{DeskNo}
use Rattle.em_view.specs.declared.no.DeskNo.TheVariants as desk
use Rattle.em_view.specs.Actions.{Workspace, Oracle, Action, ◌>>=◌, go_on, done, fail, ask, lift, mine, ready, spend}
use Rattle.em_tree.specs.declared.way.Met.{Met}
use Rattle.em_tree.specs.declared.way.Way.{Way}
use Rattle.em_tree.specs.declared.way.Way.TheVariants.{To, TooMany, Bad}
use Rattle.em_tree.specs.declared.way.Led.{Led}
use Rattle.em_tree.specs.Resolving.{most, levels, onward}
use Rattle.em_view.specs.Walking.{link_by, link_below, passed_by, passed_under, passed, pass_above, pass, lead_by, lead_on, too_many, resolve_from, resolve, target_by, target}
use Rattle.em_view.specs.Rows.{is_dir, kind_by, kind_below, kind_to, kind_at, stamp_by, stamp_below, stamp_to, stamp_at, content_by, content_below, content_to, content, told_names, amend, made_names, other_names, names_by, names_below, names_to, names, link_to, link_at, number, change, pay, look_by, look, put_at, put, place_at, place, make_dir_at, make_dir, make_link_at, make_link, take_away, remove_dir, remove_by, remove_under, remove_from, remove, touch_dir, touch_bytes, touch_file, touch_by, touch_at, touch}
use Rattle.em_view.specs.Rows.{blocks, size_of}
use Rattle.em_view.specs.Names.{names_size}
use Rattle.em_view.specs.Rows as rows
use Rattle.em_view.specs.Steps.{Steps, and_then, below, own, within, refuse}
use Rattle.em_view.specs.Steps as steps
use Rattle.em_utility.specs.Operands.{Tries, Runs, refused, named, gives, located, not_read, read_body, read_path, read, at, caught, each, command}
use Rattle.em_utility.specs.Writing.{nothing}

pub record Burns {E A : Type 0} (m : Action E A) : Type 0 where
  pub down : (o : Oracle) (w : Workspace) → (m o w).1.fuel ≤ w.fuel

pub record BurnsAll {S E A : Type 0} (m : Steps S E A) : Type 0 where
  pub at : (s : S) → Burns (m s)

-- ---- actions

module _ {E A B : Type 0} where
  went : (k : A → Action E B) → ((a : A) → Burns (k a)) → (r : Result A E) (v w : Workspace) (o : Oracle) → v.fuel ≤ w.fuel → (go_on r v k o).1.fuel ≤ w.fuel
  went k h (Ok a) v w o le = let more = (h a).down o v in omega (arith, more, le)
  went k h (Err e) v w o le = le

  pub then_burns : {m : Action E A} {k : A → Action E B} → Burns m → ((a : A) → Burns (k a)) → Burns (m >>= k)
  unfolding ◌>>=◌
  then_burns {m} {k} first h = record { down = λ o w. went k h (m o w).0 (m o w).1 w o (first.down o w) }

pub burns_done : {E A : Type 0} (a : A) → Burns (done {E = E} a)
unfolding done
burns_done a = record { down = λ o w. omega arith }

pub burns_fail : {E A : Type 0} (e : E) → Burns (fail {A = A} e)
unfolding fail
burns_fail e = record { down = λ o w. omega arith }

pub burns_lift : {E F A : Type 0} (f : E → F) {m : Action E A} → Burns m → Burns (lift f m)
unfolding lift
burns_lift f h = record { down = λ o w. h.down o w }

pub burns_by : {E A : Type 0} {m n : Action E A} (b : Bool) → Burns m → Burns n → Burns (cond b m n)
burns_by true h g = h
burns_by false h g = g

pub burns_spend : (n : ℕ) → Burns (spend n)
unfolding spend
burns_spend n = record { down = λ o w. by_case w (nat_lt w.fuel n) }
  where
    by_case : (w : Workspace) (b : Bool) → (let z : Result (Unit {0}) DeskNo × Workspace = cond b (Err desk.Spent, w) (Ok tt, record w { fuel = w.fuel - n }) in z).1.fuel ≤ w.fuel
    by_case w true = omega arith
    by_case w false = omega arith

burns_ready : Burns ready
unfolding ready
burns_ready = record { down = λ o w. omega arith }

burns_ask : {A : Type 0} (q : _) (f : _ → A) → let m : Action DeskNo A = (ask q >>= λ a. done (f a)) in Burns m
unfolding ◌>>=◌ ask done
burns_ask q f = record { down = λ o w. omega arith }

burns_mine : {B : Type 0} (p : List ℕ) {k : Option (Option Node) → Action DeskNo B} → ((m : Option (Option Node)) → Burns (k m)) → Burns (mine p >>= k)
unfolding ◌>>=◌ mine
burns_mine p h = record { down = λ o w. (h _).down o w }

-- ---- a desk's operations

burns_amend : (p : List ℕ) (ns : Option (List (List ℕ))) → Burns (amend p ns)
unfolding amend
burns_amend p ns = record { down = λ o w. omega arith }

kind_below_burns : (p : List ℕ) → Burns (kind_below p)
unfolding kind_below
kind_below_burns p = burns_mine p by_own
  where
    by_own : (m : Option (Option Node)) → Burns (kind_by m p)
    by_own (Some n) = burns_done _
    by_own None = burns_ask _ _

stamp_below_burns : (p : List ℕ) → Burns (stamp_below p)
unfolding stamp_below
stamp_below_burns p = burns_mine p by_own
  where
    by_own : (m : Option (Option Node)) → Burns (stamp_by m p)
    by_own (Some n) = burns_done _
    by_own None = burns_ask _ _

content_below_burns : (p : List ℕ) → Burns (content_below p)
unfolding content_below
content_below_burns p = burns_mine p by_own
  where
    by_own : (m : Option (Option Node)) → Burns (content_by m p)
    by_own (Some n) = burns_done _
    by_own None = burns_ask _ _

told_burns : (p : List ℕ) → Burns (told_names p)
unfolding told_names
told_burns p = burns_ask _ _

names_below_burns : (p : List ℕ) → Burns (names_below p)
unfolding names_below made_names other_names
names_below_burns p = burns_mine p by_own
  where
    by_dir : (b : Bool) → Burns (cond b (made_names p) (done None))
    by_dir true = then_burns (told_burns p) (λ ns. burns_amend p _)
    by_dir false = burns_done _

    by_own : (m : Option (Option Node)) → Burns (names_by m p)
    by_own (Some n) = by_dir (is_dir n)
    by_own None = then_burns (told_burns p) (λ ns. burns_amend p ns)

-- ---- where a path leads

link_below_burns : (p : List ℕ) → Burns (link_below p)
unfolding link_below
link_below_burns p = burns_mine p by_own
  where
    by_own : (m : Option (Option Node)) → Burns (link_by m p)
    by_own (Some n) = burns_done _
    by_own None = burns_ask _ _

passed_by_burns : (dir p : List ℕ) (m : Option Met) → Burns (passed_by dir p m)
passed_by_burns dir p (Some m) = burns_done _
passed_by_burns dir p None = then_burns (link_below_burns p) (λ text. burns_done _)

under_burns : (above : List ℕ → Action DeskNo (Option Met)) → ((q : List ℕ) → Burns (above q)) → (p : List ℕ) (o : Option (List ℕ)) → Burns (passed_under above p o)
under_burns above h p None = burns_done _
under_burns above h p (Some dir) = then_burns (h dir) (λ m. passed_by_burns dir p m)

passed_burns : (left : ℕ) (p : List ℕ) → Burns (passed left p)
passed_burns zero p = burns_done _
passed_burns (suc left) p = under_burns (passed left) (passed_burns left) p (parent_text p)

pass_burns : (last : Bool) (p : List ℕ) → Burns (pass last p)
pass_burns true p = passed_burns levels p
pass_burns false p = by_parent (parent_text p)
  where
    by_parent : (o : Option (List ℕ)) → Burns (pass_above o)
    by_parent None = burns_done _
    by_parent (Some dir) = passed_burns levels dir

lead_burns : (follow : Met → Action DeskNo Led) (n : ℕ) (p : List ℕ) → ((m : Met) → Burns (follow m)) → (o : Option Met) → Burns (lead_by follow n p o)
lead_burns follow n p h None = burns_done _
lead_burns follow n p h (Some m) = h m

on_burns : (next : List ℕ → Action DeskNo Led) (n : ℕ) → ((q : List ℕ) → Burns (next q)) → (o : Option (List ℕ)) → Burns (lead_on next n o)
on_burns next n h None = burns_done _
on_burns next n h (Some q) = h q

from_burns : (last : Bool) (left n : ℕ) (p : List ℕ) → Burns (resolve_from last left n p)
from_burns last zero n p = then_burns (pass_burns last p) (λ m. lead_burns (too_many n) n p (λ x. burns_done _) m)
from_burns last (suc left) n p = then_burns (pass_burns last p) (λ m. lead_burns (λ x. lead_on (resolve_from last left (suc n)) n (onward p x)) n p (λ x. on_burns (resolve_from last left (suc n)) n (from_burns last left (suc n)) (onward p x)) m)

resolve_burns : (last : Bool) (p : List ℕ) → Burns (resolve last p)
unfolding resolve
resolve_burns last p = from_burns last most 0 p

target_burns : (last : Bool) (p : List ℕ) → Burns (target last p)
unfolding target
target_burns last p = then_burns (resolve_burns last p) (λ f. then_burns (by_way f.way) (λ q. burns_done _))
  where
    by_way : (y : Way) → Burns (target_by y)
    by_way (To q) = burns_done _
    by_way TooMany = burns_fail _
    by_way Bad = burns_fail _

-- ---- reading and changing

reading_burns : {A : Type 0} (last : Bool) (p : List ℕ) (to : Way → Action DeskNo A) (cost : A → ℕ → ℕ) → ((y : Way) → Burns (to y)) → let m : Action DeskNo A = (spend 1 >>= λ u. resolve last p >>= λ f. to f.way >>= λ a. spend (cost a f.followed) >>= λ v. done a) in Burns m
reading_burns last p to cost h = then_burns (burns_spend 1) (λ u. then_burns (resolve_burns last p) (λ f. then_burns (h f.way) (λ a. then_burns (burns_spend _) (λ v. burns_done _))))

pub kind_burns : (p : List ℕ) → Burns (kind_at p)
unfolding kind_at
kind_burns p = reading_burns true p kind_to (λ k n. n) by_way
  where
    by_way : (y : Way) → Burns (kind_to y)
    by_way (To q) = kind_below_burns q
    by_way TooMany = burns_done _
    by_way Bad = burns_done _

pub stamp_burns : (p : List ℕ) → Burns (stamp_at p)
unfolding stamp_at
stamp_burns p = reading_burns true p stamp_to (λ k n. n) by_way
  where
    by_way : (y : Way) → Burns (stamp_to y)
    by_way (To q) = stamp_below_burns q
    by_way TooMany = burns_done _
    by_way Bad = burns_done _

pub content_burns : (p : List ℕ) → Burns (content p)
unfolding content
content_burns p = reading_burns true p content_to (λ body n. blocks (size_of body) + n) by_way
  where
    by_way : (y : Way) → Burns (content_to y)
    by_way (To q) = content_below_burns q
    by_way TooMany = burns_done _
    by_way Bad = burns_done _

pub names_burns : (p : List ℕ) → Burns (names p)
unfolding names
names_burns p = reading_burns true p names_to (λ ns n. blocks (names_size ns) + n) by_way
  where
    by_way : (y : Way) → Burns (names_to y)
    by_way (To q) = names_below_burns q
    by_way TooMany = burns_done _
    by_way Bad = burns_done _

pub link_burns : (p : List ℕ) → Burns (link_at p)
unfolding link_at
link_burns p = reading_burns false p link_to (λ text n. blocks (size_of text) + n) by_way
  where
    by_way : (y : Way) → Burns (link_to y)
    by_way (To q) = link_below_burns q
    by_way TooMany = burns_done _
    by_way Bad = burns_done _

burns_number : Burns number
unfolding number
burns_number = record { down = λ o w. omega arith }

burns_change : (p : List ℕ) (c : Option Node) (above : Option (List ℕ)) → Burns (change p c above)
unfolding change
burns_change p c above = record { down = λ o w. omega arith }

burns_pay : (n : ℕ) → Burns (pay n)
unfolding pay
burns_pay n = then_burns (burns_spend 1) (λ u. burns_spend n)

burns_refuse : (f : Option FileNo) → Burns (rows.refuse f)
burns_refuse None = burns_done _
burns_refuse (Some f) = burns_fail _

look_burns : (p : List ℕ) → Burns (look p)
unfolding look
look_burns p = then_burns (kind_below_burns p) (λ k. by_parent (parent_text p) k)
  where
    by_parent : (above : Option (List ℕ)) (k : Kind) → Burns (look_by above k)
    by_parent None k = burns_done _
    by_parent (Some q) k = then_burns (kind_below_burns q) (λ above. burns_done _)

changing_burns : {A : Type 0} (last : Bool) (p : List ℕ) (at : List ℕ → ℕ → Action DeskNo A) → ((q : List ℕ) (n : ℕ) → Burns (at q n)) → Burns (ready >>= (λ r. target last p >>= (λ t. at t.0 t.1)))
changing_burns last p at h = then_burns burns_ready (λ r. then_burns (target_burns last p) (λ t. h t.0 t.1))

pub put_burns : (p bytes : List ℕ) → Burns (put p bytes)
unfolding put put_at
put_burns p bytes = changing_burns true p (λ q n. put_at q n bytes) (λ q n. then_burns (look_burns q) (λ spot. then_burns (burns_refuse _) (λ f. then_burns (burns_pay _) (λ u. then_burns burns_number (λ n. burns_change _ _ _)))))

pub place_burns : (p bytes : List ℕ) (stamp : ℕ) → Burns (place p bytes stamp)
unfolding place place_at
place_burns p bytes stamp = changing_burns false p (λ q n. place_at q n bytes stamp) (λ q n. then_burns (look_burns q) (λ spot. then_burns (burns_refuse _) (λ f. then_burns (burns_pay _) (λ u. burns_change _ _ _))))

pub make_burns : (p : List ℕ) → Burns (make_dir p)
unfolding make_dir make_dir_at
make_burns p = changing_burns false p make_dir_at (λ q n. then_burns (look_burns q) (λ spot. then_burns (burns_refuse _) (λ f. then_burns (burns_pay _) (λ u. then_burns burns_number (λ n. burns_change _ _ _)))))

pub make_link_burns : (p text : List ℕ) → Burns (make_link p text)
unfolding make_link make_link_at
make_link_burns p text = changing_burns false p (λ q n. make_link_at q n text) (λ q n. then_burns (look_burns q) (λ spot. then_burns (burns_refuse _) (λ f. then_burns (burns_pay _) (λ u. then_burns burns_number (λ n. burns_change _ _ _)))))

take_burns : (p above : List ℕ) (n : ℕ) → Burns (take_away p above n)
unfolding take_away
take_burns p above n = then_burns (burns_pay n) (λ u. burns_change _ _ _)

pub remove_burns : (p : List ℕ) → Burns (remove p)
unfolding remove remove_dir
remove_burns p = then_burns burns_ready (λ r. by_root (parent_text p))
  where
    by_kind : (k : Kind) (q above : List ℕ) (n : ℕ) → Burns (remove_by k q above n)
    by_kind kind.Absent q above n = burns_fail _
    by_kind kind.File q above n = take_burns q above n
    by_kind kind.Link q above n = take_burns q above n
    by_kind kind.Dir q above n = then_burns (names_below_burns q) (λ ns. then_burns (burns_refuse _) (λ f. take_burns q above n))

    by_parent : (above : Option (List ℕ)) (q : List ℕ) (n : ℕ) → Burns (remove_under above q n)
    by_parent None q n = burns_fail _
    by_parent (Some above) q n = then_burns (kind_below_burns q) (λ k. by_kind k q above n)

    by_root : (above : Option (List ℕ)) → Burns (remove_from above p)
    by_root None = burns_fail _
    by_root (Some above) = then_burns (target_burns false p) (λ t. by_parent (parent_text t.0) t.0 t.1)

pub touch_burns : (p : List ℕ) → Burns (touch p)
unfolding touch touch_at touch_dir touch_file
touch_burns p = changing_burns true p touch_at (λ q n. then_burns (kind_below_burns q) (λ k. by_kind k q n))
  where
    by_bytes : (body : Option (List ℕ)) (q : List ℕ) (n : ℕ) → Burns (touch_bytes body q n)
    by_bytes None q n = burns_fail _
    by_bytes (Some bytes) q n = then_burns (burns_pay n) (λ u. then_burns burns_number (λ k. burns_change _ _ _))

    by_kind : (k : Kind) (q : List ℕ) (n : ℕ) → Burns (touch_by k q n)
    by_kind kind.Absent q n = burns_fail _
    by_kind kind.Link q n = burns_fail _
    by_kind kind.Dir q n = then_burns (burns_pay n) (λ u. then_burns burns_number (λ k. burns_change _ _ _))
    by_kind kind.File q n = then_burns (content_below_burns q) (λ body. by_bytes body q n)

-- ---- steps

module _ {S E A B : Type 0} where
  pub all_then : {m : Steps S E A} {k : A → Steps S E B} → BurnsAll m → ((a : A) → BurnsAll (k a)) → BurnsAll (and_then m k)
  unfolding and_then
  all_then first h = record { at = λ s. then_burns (first.at s) (λ p. (h p.0).at p.1) }

pub all_done : {S E A : Type 0} (a : A) → BurnsAll (steps.done {S = S} {E = E} a)
unfolding steps.done
all_done a = record { at = λ s. record { down = λ o w. omega arith } }

pub all_refuse : {S E A : Type 0} (e : E) → BurnsAll (refuse {S = S} {A = A} e)
unfolding refuse
all_refuse e = record { at = λ s. record { down = λ o w. omega arith } }

pub all_own : {S E A : Type 0} (f : S → Result (A × S) (E × S)) → BurnsAll (own f)
unfolding own
all_own f = record { at = λ s. record { down = λ o w. omega arith } }

pub all_below : {S D E A : Type 0} (f : D → E) {m : Action D A} → Burns m → BurnsAll (below {S = S} f m)
unfolding below
all_below f h = record { at = λ s. record { down = λ o w. h.down o w } }

pub all_within : {S T D E A : Type 0} (get : S → T) (put : S → T → S) (f : D → E) {m : Steps T D A} → BurnsAll m → BurnsAll (within get put f m)
unfolding within
all_within get put f h = record { at = λ s. record { down = λ o w. (h.at (get s)).down o w } }

pub all_by : {S E A : Type 0} {m n : Steps S E A} (b : Bool) → BurnsAll m → BurnsAll n → BurnsAll (cond b m n)
all_by true h g = h
all_by false h g = g

-- ---- operands

pub burns_named : {A : Type 0} (operand : List ℕ) {m : Action DeskNo A} → Burns m → Burns (named operand m)
unfolding named
burns_named operand h = burns_lift (refused operand) h

pub burns_gives : {E A : Type 0} (r : Result A E) → Burns (gives r)
burns_gives (Ok a) = burns_done a
burns_gives (Err e) = burns_fail e

pub read_burns : (cwd name : List ℕ) → Burns (read cwd name)
unfolding read read_path not_read
read_burns cwd name = then_burns (burns_gives (located cwd name)) (λ p. then_burns (burns_named name (content_burns p)) (λ body. by_body p body))
  where
    by_body : (p : List ℕ) (body : Option (List ℕ)) → Burns (read_body name p body)
    by_body p (Some bytes) = burns_done _
    by_body p None = then_burns (burns_named name (kind_burns p)) (λ k. burns_fail _)

pub all_at : {A : Type 0} (operand : List ℕ) {m : Action DeskNo A} → Burns m → BurnsAll (at operand m)
unfolding at
all_at operand h = all_below (refused operand) h

pub all_caught : (utility : List ℕ) {m : Tries} → BurnsAll m → BurnsAll (caught utility m)
unfolding caught
all_caught utility h = record { at = λ d. record { down = λ o w. (h.at d).down o w } }

pub all_each : {A : Type 0} (utility : List ℕ) (act : A → Tries) → ((x : A) → BurnsAll (act x)) → (xs : List A) → BurnsAll (each utility act xs)
all_each utility act h [] = all_done tt
all_each utility act h (x ∷ xs) = all_then (all_caught utility (h x)) (λ u. all_each utility act h xs)

pub burns_command : {m : Runs} → BurnsAll m → Burns (command m)
unfolding command
burns_command h = record { down = λ o w. (h.at nothing).down o w }

-- ---- path names

in_dir_burns : (cwd : List ℕ) (c : List Glyph) (dir : _) → Burns (in_dir cwd c dir)
unfolding search look_up
in_dir_burns cwd c dir = burns_by (is_pattern c) (then_burns (names_burns dir.path) (λ ns. burns_done _)) (by_found _)
  where
    by_found : (f : Option _) → Burns (look_up_by f)
    by_found None = burns_done _
    by_found (Some f) = then_burns (kind_burns f.path) (λ k. burns_done _)

in_each_burns : (cwd : List ℕ) (c : List Glyph) (so_far dirs : List _) → Burns (in_each cwd c so_far dirs)
in_each_burns cwd c so_far [] = burns_done _
in_each_burns cwd c so_far (dir ∷ dirs) = then_burns (in_dir_burns cwd c dir) (λ more. in_each_burns cwd c (so_far ++ more) dirs)

walk_burns : (cwd : List ℕ) (cs : List (List Glyph)) (dirs : List _) → Burns (walk cwd cs dirs)
walk_burns cwd [] dirs = burns_done _
walk_burns cwd (c ∷ cs) dirs = then_burns (in_each_burns cwd c [] dirs) (λ next. walk_burns cwd cs next)

pub matching_burns : (cwd : List ℕ) (gs : List Glyph) → Burns (matching_names cwd gs)
unfolding matching_names
matching_burns cwd gs = then_burns (walk_burns cwd (components gs) (start cwd gs)) (λ end. burns_done _)
