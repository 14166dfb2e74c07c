-- What is told of a journal without its replay.
--     claims_of j es       how often job j is claimed
--     settled_in es        the jobs that are settled, in order
--     posts_in ps es       what the jobs have posted last, where before it that was ps
--     ends j e             the event ends what a worker or the committer has of job j
--     IsRunning j es       job j was claimed, and nothing behind its claim ends it
--     HasEnded j es        something ends job j
--     stops_in es          how often the board is stopped
use Rattle.std.specs.Prelude.{◌≡◌, ◌==◌, ◌+◌, ℕ, Bool, true, false, All, List, [], ◌∷◌, ◌++◌, if◌then◌else◌}
use Rattle.std.specs.FinMap.{insert}
use Rattle.em_chain.specs.Posts.{Posts}
use Rattle.em_engine.specs.declared.event.Event.{Event}
use Rattle.em_engine.specs.declared.event.Event.TheVariants as event

abbrev pub claim_in : ℕ → Event → ℕ
claim_in j (event.Claim k) = if k == j then 1 else 0
claim_in j _ = 0

abbrev pub claims_of : ℕ → List Event → ℕ
claims_of j [] = 0
claims_of j (e ∷ es) = claim_in j e + claims_of j es

abbrev pub settled_in : List Event → List ℕ
settled_in [] = []
settled_in (event.Settle j d o ∷ es) = j ∷ settled_in es
settled_in (e ∷ es) = settled_in es

abbrev pub posts_in : Posts → List Event → Posts
posts_in ps [] = ps
posts_in ps (event.Publish j d o ∷ es) = posts_in (insert ps j (record { delta = d; outcome = o })) es
posts_in ps (event.Settle j d o ∷ es) = posts_in (insert ps j (record { delta = d; outcome = o })) es
posts_in ps (e ∷ es) = posts_in ps es

abbrev pub ends : ℕ → Event → Bool
ends j (event.Publish k d o) = k == j
ends j (event.GiveUp k) = k == j
ends j (event.Settle k d o) = k == j
ends j _ = false

pub record IsRunning (j : ℕ) (es : List Event) : Type 0 where
  pub before : List Event
  pub behind : List Event
  pub all : es ≡ before ++ event.Claim j ∷ behind
  pub none : All (λ e. ends j e ≡ false) behind

pub record HasEnded (j : ℕ) (es : List Event) : Type 0 where
  pub before : List Event
  pub end : Event
  pub behind : List Event
  pub all : es ≡ before ++ end ∷ behind
  pub is : ends j end ≡ true

abbrev pub stop_in : Event → ℕ
stop_in event.Stop = 1
stop_in _ = 0

abbrev pub stops_in : List Event → ℕ
stops_in [] = 0
stops_in (e ∷ es) = stop_in e + stops_in es
