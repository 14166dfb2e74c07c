-- A command that is built from its options, one after another, and what clap says of it: for each
-- simple command.
use Rattle.std.proofs.Common.{◌≡◌, ◌≢◌, ◌∙◌, ap, ap₂, subst, true, false, inl, inr, ℕ, List, [], Some, Result, Ok, Err}
use Rattle.std.proofs.lemmas.Bool.{and_parts}
use Rattle.std.specs.Borrow.{Bor}
use Rattle.clap.specs.Words.{AddsArg, App, FailsBy, HasKind, HasMatchesOf, IsAmong, Kinds, Rule, Text, app_of, fault_of, found_of, is_simple, is_simple_and_free, kind_of, matches_of, rows_of, rule_of, with_rule}
use Rattle.clap.specs.declared.error.Error.{Error}
use Rattle.clap.specs.declared.error.kind.ErrorKind.TheVariants as kind
use Rattle.clap.specs.declared.parser.matches.ArgMatches.{ArgMatches}
use Rattle.clap.specs.declared.builder.command.Command.TheViews.{out-Command as fields_of}
use Rattle.clap.specs.Simple.{app_of_fields}
use Rattle.clap.specs.declared.builder.command.Command.TheOpen.{Command-F}
use Rattle.clap.specs.declared.builder.arg.Arg.{Arg}
use Rattle.clap.specs.declared.builder.command.Command.{Command}
use Rattle.em_cmdline.specs.Words.{long, plain, short}

-- the command before its options
pub bare : (a b c d : Command) (app : App) → fields_of b ≡ record (fields_of a) { no_binary_name = true } → fields_of c ≡ record (fields_of b) { disable_help_flag = true }
    → fields_of d ≡ record (fields_of c) { disable_version_flag = true } → app_of a ≡ app → app_of d ≡ plain app
bare a b c d app first second third is =
    ap app_of_fields (third ∙ ap (λ (f : Command-F Command). record f { disable_version_flag = true }) (second ∙ ap (λ (f : Command-F Command). record f { disable_help_flag = true }) first)) ∙ ap plain is

pub added : {old new : Command} {a : Arg} {app : App} {r : Rule} → AddsArg old a new → app_of old ≡ app → rule_of a ≡ r → a.global ≡ false → app_of new ≡ with_rule app r
added adds is rule local = adds.shape local ∙ ap₂ with_rule is rule

pub added_short : {old new : Command} (a : Arg) {b : Arg} {app : App} {s : ℕ} {r : Rule} → AddsArg old b new → app_of old ≡ app → b ≡ record a { short = Some s } → rule_of a ≡ r → a.global ≡ false
    → app_of new ≡ with_rule app (short s r)
added_short a {s = s} adds is made rule local = added adds is (ap rule_of made ∙ ap (short s) rule) (ap (λ (x : Arg). x.global) made ∙ local)

pub added_long : {old new : Command} (a : Arg) {b : Arg} {app : App} {name : Bor Text} {r : Rule} → AddsArg old b new → app_of old ≡ app → b ≡ record a { long = Some name } → rule_of a ≡ r → a.global ≡ false
    → app_of new ≡ with_rule app (long name.now r)
added_long a {name = name} adds is made rule local = added adds is (ap rule_of made ∙ ap (long name.now) rule) (ap (λ (x : Arg). x.global) made ∙ local)

-- clap says all of what a simple command finds, and why it refuses
told : {T : Type 0} {a app : App} → a ≡ app → is_simple_and_free app ≡ true → (words : List Text) (r : Result T Error) → (is_simple_and_free a ≡ true → FailsBy (fault_of a words) r) → FailsBy (fault_of app words) r
told is simple words r h = subst (λ a. FailsBy (fault_of a words) r) is (h (ap is_simple_and_free is ∙ simple))

pub ok_fault : {a app : App} → a ≡ app → is_simple_and_free app ≡ true → (words : List Text) (m : ArgMatches) → (is_simple_and_free a ≡ true → FailsBy (fault_of a words) (Ok m)) → fault_of app words ≡ []
ok_fault is simple words m h = told is simple words (Ok m) h

fault_there : (faults : Kinds) (e : Error) → (kind_of e ≡ kind.OutOfMemory → ⊥) → HasKind faults e → faults ≢ []
fault_there faults e other (inl memory) none = other memory
fault_there faults e other (inr among) none = subst (IsAmong (kind_of e)) none among

pub err_fault : {a app : App} → a ≡ app → is_simple_and_free app ≡ true → (words : List Text) (e : Error) → (is_simple_and_free a ≡ true → FailsBy {T = ArgMatches} (fault_of a words) (Err e)) → (kind_of e ≡ kind.OutOfMemory → ⊥)
    → fault_of app words ≢ []
err_fault {app = app} is simple words e h other = fault_there (fault_of app words) e other (told {T = ArgMatches} is simple words (Err e) h)

pub ok_found : {a app : App} → a ≡ app → is_simple_and_free app ≡ true → (words : List Text) (m : ArgMatches) → HasMatchesOf a words m → rows_of (found_of m) ≡ matches_of app words
ok_found is simple words m h = (h (ap is_simple is ∙ (and_parts _ _ simple).0)).0 ∙ ap (λ a. matches_of a words) is
