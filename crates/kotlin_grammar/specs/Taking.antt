-- What a terminal takes of the tokens.
use Rattle.std.specs.Prelude.{◌≡◌, ℕ, ◌+◌, Bool, true, false, if◌then◌else◌, List, [], ◌∷◌, slice_get, Option, Some, None}
use Rattle.kotlin_tree.specs.declared.tokens.Gap.{Gap}
use Rattle.kotlin_tree.specs.declared.tokens.Gap.TheVariants as gap
use Rattle.kotlin_tree.specs.declared.tokens.KToken.{KToken}
use Rattle.kotlin_grammar.specs.declared.letters.Kind.{Kind}
use Rattle.kotlin_grammar.specs.declared.letters.Kind.TheVariants as k
use Rattle.kotlin_grammar.specs.declared.letters.Term.{Term}
use Rattle.kotlin_grammar.specs.declared.ahead.Letter.{Letter}
use Rattle.kotlin_grammar.specs.Table.{accepts, blank_after, is_end}
use Rattle.kotlin_grammar.specs.Ahead.{Letters, is_plain, with_gap, without_line}

-- with a line end before it
abbrev pub broken : Kind → Kind
broken k.While = k.BrokenWhile
broken k.PrivateSet = k.BrokenSet
broken _ = k.Broken

abbrev pub kind_behind : Gap → Kind → Kind
kind_behind gap.Plain c = c
kind_behind gap.Line c = broken c
kind_behind gap.Semicolon c = k.Broken

-- the kind of what stands first
abbrev pub kind_by : Option Letter → Kind
kind_by None = k.End
kind_by (Some l) = kind_behind l.token.gap l.kind

abbrev pub kind : Letters → Kind
kind ls = kind_by (slice_get ls 0)

abbrev pub behind : Gap → Letter → Letter
behind g l = record { kind = l.kind; token = with_gap g l.token }

-- a line end before the first token is a blank
abbrev pub relaxed : Letters → Letters
relaxed [] = []
relaxed (l ∷ ls) = behind (without_line l.token.gap) l ∷ ls

-- what is left behind a token of the terminal
abbrev pub left : Term → Letters → Letters
left c ls = if blank_after c then relaxed ls else ls

-- tokens, and ends before them
abbrev pub size : Letters → ℕ
size [] = 0
size (l ∷ ls) = (if is_plain l.token.gap then 1 else 2) + size ls

module _ {Built : Type 0} (push : Term → KToken → Built → Built) where
  -- What is built and left where the terminal takes what stands first: a token, or an end that stands before one.
  unfoldable pub takes : Term → Built → Letters → Option (Built × Letters)
  takes c b [] = None
  takes c b (l ∷ ls) =
      if accepts c (kind (l ∷ ls))
      then (if is_end c then (if is_plain l.token.gap then None else Some (b, behind gap.Plain l ∷ ls)) else Some (push c l.token b, left c ls))
      else None
