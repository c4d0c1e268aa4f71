-- What the matches of a command line give.
use Rattle.std.proofs.Common.{◌≡◌, ℕ, Bool, true, false, not, ◌&&◌, List, Option, Some, None, option_map, String, codes, refl, sym, subst, ◌∙◌}
use Rattle.std.specs.Prelude.{IfOk, Result}
use Rattle.std.specs.declared.alloc.Global.{Global}
use Rattle.std.proofs.lemmas.Result.{IfOk-weaker}
use Rattle.clap.proofs.WalkLemmas.{one_text-rows}
use Rattle.clap.specs.Matches.{one_text, subcommand_name_of}
use Rattle.clap.specs.declared.builder.command.Command.{Command}
use Rattle.clap.specs.declared.builder.command.Command.TheViews.{out-Command}
use Rattle.clap.specs.declared.error.Error.{Error}
use Rattle.clap.specs.declared.parser.matches.ArgMatches.{ArgMatches}
use Rattle.clap.specs.declared.parser.matches.Found.{Found}
use Rattle.clap.specs.Words.{App, HasMatchesOf, Row, Text, found_of, is_simple, matches_of, rows_of, shape_of, subcommand_of, subcommand_rows_of}
use Rattle.dl_plans.specs.Options.{AreGiven, GivesNumber, IsDecimal, name_of}
use Rattle.dl_plans.specs.declared.settings.Options.{Options}

some_none : (v : ℕ) → Some v ≡ None → ⊥
some_none v h = cc

number_at : (f : Found) (id : Text) (v : ℕ) (o : Option Text) → one_text f id ≡ o → (one_text f id ≡ None → Some v ≡ None)
    → ((t : Text) → one_text f id ≡ Some t → IsDecimal t v) → GivesNumber (rows_of f) id v
number_at f id v None e none value = absurd (some_none v (none e))
number_at f id v (Some t) e none value = record { text = t; row = sym (one_text-rows f id) ∙ e; decimal = value t e }

-- a number that was read of an id stands in its row
pub number_given : (f : Found) (id : Text) (v : ℕ) → (one_text f id ≡ None → Some v ≡ None) → ((t : Text) → one_text f id ≡ Some t → IsDecimal t v)
    → GivesNumber (rows_of f) id v
number_given f id v none value = number_at f id v (one_text f id) refl none value

mapped_twice : {A B C : Type 0} (g : B → C) (f : A → B) (o : Option A) → option_map g (option_map f o) ≡ option_map (λ x. g (f x)) o
mapped_twice g f None = refl
mapped_twice g f (Some x) = refl

-- what was given is what the matches give
pub were_given : (rows : List Row) (used : Option (Text × List Row)) (o : Options) (file : Option (String Global))
    (given : Result (Options × Option (String Global)) Error) → IfOk given (λ g. g ≡ (o, file)) → AreGiven rows used o file
    → IfOk given (λ g. AreGiven rows used g.0 g.1)
were_given rows used o file given is are =
    IfOk-weaker given _ _ (λ g same. subst (λ (p : Options × Option (String Global)). AreGiven rows used p.0 p.1) (sym same) are) is

-- what the matches give, the words give, by a command line that is simple
pub given_by_words : (built meant : App) (words : List Text) (m : ArgMatches) (given : Result (Options × Option (String Global)) Error) → built ≡ meant
    → is_simple meant ≡ true → HasMatchesOf built words m
    → IfOk given (λ g. AreGiven (rows_of (found_of m)) (subcommand_rows_of m) g.0 g.1)
    → IfOk given (λ g. AreGiven (matches_of meant words) (subcommand_of meant words) g.0 g.1)
given_by_words built meant words m given is simple has are =
    let of_words = subst (λ (a : App). HasMatchesOf a words m) is has simple in
    subst (λ (used : Option (Text × List Row)). IfOk given (λ g. AreGiven (matches_of meant words) used g.0 g.1)) of_words.1
    (subst (λ (rows : List Row). IfOk given (λ g. AreGiven rows (subcommand_rows_of m) g.0 g.1)) of_words.0 are)

-- the subcommand that was used has its name
pub name_used : (m : ArgMatches) → name_of (subcommand_rows_of m) ≡ subcommand_name_of m
name_used m = mapped_twice (λ used. used.0) _ _

none_some : (name : Text) → ◌≡◌ {A = Option Text} None (Some name) → ⊥
none_some name h = cc

pub used_is : (used : Option (Text × List Row)) (name : Text) (rows : List Row) → name_of used ≡ Some name → option_map (λ u. u.1) used ≡ Some rows
    → used ≡ Some (name, rows)
used_is None name rows named has = absurd (none_some name named)
used_is (Some u) name rows named has =
    let first : u.0 ≡ name = cc in
    let second : u.1 ≡ rows = cc in
    (λ i. Some (first i, second i))

false_true : ◌≡◌ {A = Bool} false true → ⊥
false_true h = cc

third : (x y g r : Bool) → (x && (y && (not g && r))) ≡ true → g ≡ false
third x y false r h = refl
third false y true r h = absurd (false_true h)
third true false true r h = absurd (false_true h)
third true true true r h = absurd (false_true h)

-- a plain command has no global argument
pub no_globals : (c : Command) → (shape_of c).is_plain ≡ true → (out-Command c).has_globals ≡ false
no_globals c plain = third _ _ _ _ plain

-- a subcommand that was used has its name, and its option `--to` this number
pub migrates : (m own : ArgMatches) (name : Text) (n v : ℕ) → subcommand_name_of m ≡ Some name
    → option_map (λ u. u.1) (subcommand_rows_of m) ≡ Some (rows_of (found_of own)) → v ≡ n → (one_text (found_of own) (codes "to") ≡ None → Some v ≡ None)
    → ((t : Text) → one_text (found_of own) (codes "to") ≡ Some t → IsDecimal t v)
    → (rows : List Row) × (subcommand_rows_of m ≡ Some (name, rows)) × GivesNumber rows (codes "to") n
migrates m own name n v named has is none value = (
  rows_of (found_of own),
  used_is (subcommand_rows_of m) name (rows_of (found_of own)) (name_used m ∙ named) has,
  subst (GivesNumber (rows_of (found_of own)) (codes "to")) is (number_given (found_of own) (codes "to") v none value),
)
