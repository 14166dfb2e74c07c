-- Where a path leads, over a desk. Each path on the way is asked whether it is a link, but for the
-- root and for what the job's own changes name; what was asked once is asked again.
--     link_below p         the text of the link at a path
--     passed levels p      each of the path and the directories above it is looked at, from the top, up to the first link
--     pass last p          the same; without `last` the path itself isn't looked at
--     resolve last p       where p leads, and how many links were followed
--     target last p        the same for a call that changes something, with its refusals
use Rattle.std.specs.Prelude.{ℕ, zero, suc, Bool, true, false, List, Option, Some, None}
use Rattle.em_path.specs.Paths.{parent_text}
use Rattle.em_tree.specs.declared.question.Question.TheVariants as question
use Rattle.em_tree.specs.declared.question.Answer.{Answer}
use Rattle.em_tree.specs.declared.question.Answer.TheVariants as answer
use Rattle.em_tree.specs.declared.node.Node.{Node}
use Rattle.em_tree.specs.declared.way.Met.{Met}
use Rattle.em_tree.specs.declared.way.Way.{Way}
use Rattle.em_tree.specs.declared.way.Way.TheVariants.{To, TooMany, Bad}
use Rattle.em_tree.specs.declared.way.Led.{Led}
use Rattle.em_tree.specs.Trees.{link_of}
use Rattle.em_tree.specs.Resolving.{most, levels, met_by, onward}
use Rattle.em_view.specs.declared.no.FileNo.TheVariants as file
use Rattle.em_view.specs.declared.no.DeskNo.{DeskNo}
use Rattle.em_view.specs.declared.no.DeskNo.TheVariants as no
use Rattle.em_view.specs.Actions.{Action, ◌>>=◌, done, fail, mine, ask}

abbrev pub link_in : Answer → Option (List ℕ)
link_in (answer.Link text) = text
link_in _ = None

abbrev pub link_by : Option (Option Node) → List ℕ → Action DeskNo (Option (List ℕ))
link_by (Some n) p = done (link_of n)
link_by None p = do
  a ← ask (question.Link p)
  done (link_in a)

unfoldable pub link_below : List ℕ → Action DeskNo (Option (List ℕ))
link_below p = do
  own ← mine p
  link_by own p

abbrev pub passed_by : List ℕ → List ℕ → Option Met → Action DeskNo (Option Met)
passed_by dir p (Some m) = done (Some m)
passed_by dir p None = do
  text ← link_below p
  done (met_by dir p text)

-- the root isn't asked
abbrev pub passed_under : (List ℕ → Action DeskNo (Option Met)) → List ℕ → Option (List ℕ) → Action DeskNo (Option Met)
passed_under above p None = done None
passed_under above p (Some dir) = do
  m ← above dir
  passed_by dir p m

abbrev pub passed : ℕ → List ℕ → Action DeskNo (Option Met)
passed zero p = done None
passed (suc left) p = passed_under (passed left) p (parent_text p)

abbrev pub pass_above : Option (List ℕ) → Action DeskNo (Option Met)
pass_above None = done None
pass_above (Some dir) = passed levels dir

abbrev pub pass : Bool → List ℕ → Action DeskNo (Option Met)
pass true p = passed levels p
pass false p = pass_above (parent_text p)

abbrev pub lead_by : (Met → Action DeskNo Led) → ℕ → List ℕ → Option Met → Action DeskNo Led
lead_by follow n p None = done (record { way = To p; followed = n })
lead_by follow n p (Some m) = follow m

-- a link that leads to no path isn't counted
abbrev pub lead_on : (List ℕ → Action DeskNo Led) → ℕ → Option (List ℕ) → Action DeskNo Led
lead_on next n None = done (record { way = Bad; followed = n })
lead_on next n (Some q) = next q

abbrev pub too_many : ℕ → Met → Action DeskNo Led
too_many n m = done (record { way = TooMany; followed = n })

abbrev pub resolve_from : Bool → ℕ → ℕ → List ℕ → Action DeskNo Led
resolve_from last zero n p = do
  m ← pass last p
  lead_by (too_many n) n p m
resolve_from last (suc left) n p = do
  m ← pass last p
  lead_by (λ m. lead_on (resolve_from last left (suc n)) n (onward p m)) n p m

unfoldable pub resolve : Bool → List ℕ → Action DeskNo Led
resolve last p = resolve_from last most 0 p

abbrev pub target_by : Way → Action DeskNo (List ℕ)
target_by (To q) = done q
target_by TooMany = fail (no.File file.TooManyLinks)
target_by Bad = fail (no.File file.LinkPath)

-- the path that is changed, and how many links were followed to it
unfoldable pub target : Bool → List ℕ → Action DeskNo (List ℕ × ℕ)
target last p = do
  f ← resolve last p
  q ← target_by f.way
  done (q, f.followed)
