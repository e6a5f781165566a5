-- One letter of a look ahead in code, against what the definition does there.
use Rattle.std.specs.Prelude.{◌≡◌, ℕ, ◌+◌, ◌≤◌, Bool, true, false, if◌then◌else◌, Option, Some, None}
use Rattle.kotlin_grammar.specs.declared.letters.Kind.{Kind}
use Rattle.kotlin_grammar.specs.declared.ahead.Letter.{Letter}
use Rattle.kotlin_grammar.specs.declared.ahead.Spot.{Spot}
use Rattle.kotlin_grammar.specs.declared.ahead.Step.{Step}
use Rattle.kotlin_grammar.specs.Ahead.{goes_on, names_on, step, is_semicolon}
use Rattle.kotlin_kinds.specs.declared.spots.Turn.{Turn}
use Rattle.kotlin_kinds.specs.declared.spots.Turn.TheVariants as u
use Rattle.kotlin_kinds.specs.declared.names.NamesTurn.{NamesTurn}
use Rattle.kotlin_kinds.specs.declared.names.NamesTurn.TheVariants as nu

abbrev pub turn_gives : Turn → (Spot → ℕ → Bool) → Bool → Bool
turn_gives (u.Go spot n) more ended = more spot n
turn_gives u.Ended more ended = ended
turn_gives u.Out more ended = false

abbrev pub TurnBy : Step → ℕ → Turn → Type 0
TurnBy s n t = (more : Spot → ℕ → Bool) (ended : Bool) → goes_on s n more ended ≡ turn_gives t more ended

abbrev pub TurnIs : Spot → ℕ → Letter → Turn → Type 0
TurnIs p n l t = (more : Spot → ℕ → Bool) (ended : Bool) → (if is_semicolon l.token.gap then false else goes_on (step p l.kind) n more ended) ≡ turn_gives t more ended

abbrev pub TurnThere : Spot → ℕ → Option Letter → Turn → Type 0
TurnThere p n None t = (more : Spot → ℕ → Bool) (ended : Bool) → false ≡ turn_gives t more ended
TurnThere p n (Some l) t = TurnIs p n l t

abbrev pub names_give : NamesTurn → (Bool → Bool) → Bool
names_give (nu.Go b) more = more b
names_give nu.Yes more = true
names_give nu.No more = false

abbrev pub NamesBy : Bool → Kind → NamesTurn → Type 0
NamesBy was c t = (more : Bool → Bool) → names_on was c more ≡ names_give t more

abbrev pub NamesIs : Bool → Letter → NamesTurn → Type 0
NamesIs was l t = (more : Bool → Bool) → (if is_semicolon l.token.gap then false else names_on was l.kind more) ≡ names_give t more

abbrev pub NamesThere : Bool → Option Letter → NamesTurn → Type 0
NamesThere was None t = (more : Bool → Bool) → false ≡ names_give t more
NamesThere was (Some l) t = NamesIs was l t

-- at most one more
abbrev pub Few : ℕ → Turn → Type 0
Few n (u.Go spot m) = m ≤ n + 1
Few n u.Ended = Unit {0}
Few n u.Out = Unit {0}
