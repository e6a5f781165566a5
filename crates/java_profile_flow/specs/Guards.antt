-- Synchronized blocks with the jumps that leave them, and the switches whose groups Kotlin chains (own rule: such a jump notes its number and
-- ends the block, which the text behind it tests; a chain is a list of `if`s).
use Rattle.std.specs.Prelude.{ℕ, Bool, true, false, not, ◌&&◌, ◌||◌, List, [], ◌∷◌, ◌++◌, map, Option, Some, None, is_some}
use Rattle.std.specs.List.{filter, flat_map, list_all, list_any}
use Rattle.java_tree.specs.declared.tokens.Position.{Position}
use Rattle.java_typed.specs.declared.types.TWritten.{TWritten}
use Rattle.java_typed.specs.declared.exprs.TExpr.{TExpr}
use Rattle.java_typed.specs.declared.statements.TDeclarator.{TDeclarator}
use Rattle.java_typed.specs.declared.statements.TSimple.{TSimple}
use Rattle.java_typed.specs.declared.statements.TSimple.TheVariants as simple
use Rattle.java_typed.specs.declared.statements.TForStart.{TForStart}
use Rattle.java_typed.specs.declared.statements.TForStart.TheVariants as starts
use Rattle.java_typed.specs.declared.statements.TBody.{TBody, fold-TBody}
use Rattle.java_typed.specs.declared.statements.TBody.TheOpen.{TBody-F, TStatement-F, TCaseGroup-F, TCatch-F}
use Rattle.java_typed.specs.declared.statements.TBody.TheFolds.{map-TStatement, map-TCaseGroup, map-TCatch}
use Rattle.java_typed.specs.declared.statements.TStatement.{TStatement, fold-TStatement}
use Rattle.java_flow.specs.Variables.{Target, Behind, BehindLabel, Next, NextLabel, same_target, JavaAct}
use Rattle.java_flow.specs.Statements as s
use Rattle.java_flow.specs.Statements.{Statement, CaseGroup, block, break_by, continue_by}
use Rattle.java_flow.specs.Faults.{can_end}
use Rattle.java_walks.specs.Texts as texts
use Rattle.java_profile_flow.specs.Assignments.{Assigned, assignments}

-- a `break` or `continue`, where it goes, its first token, and whether it goes through a `finally`
pub record Jump : Type 0 where
  pub target : Target
  pub at : Position
  pub is_through : Bool

-- A synchronized block: its first token, what it does, the jumps that leave it, the assignments in it, and the locals in scope at it
-- that are declared without initializer.
pub record Guard : Type 0 where
  pub at : Position
  pub does : JavaAct
  pub jumps : List Jump
  pub assigned : List Assigned
  pub unset : List (List ℕ)

-- Of a text: the jumps that leave it, its synchronized blocks, the assignments in it, those in groups of a chain, the locals that it
-- declares without initializer and whose scopes go on behind it, and whether it is a `break`.
pub record Piece : Type 0 where
  pub jumps : List Jump
  pub guards : List Guard
  pub assigned : List Assigned
  pub chained : List Assigned
  pub opens : List (List ℕ)
  pub is_break : Bool

abbrev pub nothing : Piece
nothing = record { jumps = []; guards = []; assigned = []; chained = []; opens = []; is_break = false }

abbrev pub opened : List (List ℕ) → Guard → Guard
opened names g = record { at = g.at; does = g.does; jumps = g.jumps; assigned = g.assigned; unset = names ++ g.unset }

-- one behind the other, in the scopes of what it declares
abbrev pub both : Piece → Piece → Piece
both a b = record {
  jumps = a.jumps ++ b.jumps;
  guards = a.guards ++ map (opened a.opens) b.guards;
  assigned = a.assigned ++ b.assigned;
  chained = a.chained ++ b.chained;
  opens = a.opens ++ b.opens;
  is_break = false;
}

abbrev pub sequence : List Piece → Piece
sequence [] = nothing
sequence (x ∷ more) = both x (sequence more)

abbrev pub closed : Piece → Piece
closed p = record { jumps = p.jumps; guards = p.guards; assigned = p.assigned; chained = p.chained; opens = []; is_break = false }

-- none of its jumps leaves it
abbrev pub kept : Piece → Piece
kept p = record { jumps = []; guards = p.guards; assigned = p.assigned; chained = p.chained; opens = []; is_break = false }

abbrev pub just_assigned : List Assigned → Piece
just_assigned xs = record { jumps = []; guards = []; assigned = xs; chained = []; opens = []; is_break = false }

-- ---- jumps

abbrev pub leaving : (Target → Bool) → List Jump → List Jump
leaving ends js = filter (λ (j : Jump). not (ends j.target)) js

-- those to some targets end at it
abbrev pub ended : (Target → Bool) → Piece → Piece
ended ends p = record { jumps = leaving ends p.jumps; guards = p.guards; assigned = p.assigned; chained = p.chained; opens = []; is_break = false }

abbrev pub is_label : Option (List ℕ) → (List ℕ → Target) → Target → Bool
is_label None to t = false
is_label (Some name) to t = same_target (to name) t

-- what ends a loop, or a round of it, and a switch
abbrev pub ends_loop : Option (List ℕ) → Target → Bool
ends_loop name t = same_target Behind t || same_target Next t || is_label name NextLabel t

abbrev pub ends_switch : Option (List ℕ) → Target → Bool
ends_switch name t = same_target Behind t || is_label name BehindLabel t

abbrev pub passing : Bool → Jump → Jump
passing b j = record { target = j.target; at = j.at; is_through = b || j.is_through }

-- a jump of what stands before a `finally` goes through it
abbrev pub passed : Bool → Piece → Piece
passed b p = record { jumps = map (passing b) p.jumps; guards = p.guards; assigned = p.assigned; chained = p.chained; opens = []; is_break = false }

-- ---- the groups of a switch

pub record GroupText : Type 0 where
  pub group : CaseGroup
  pub pieces : List Piece

abbrev pub goes_behind : (Target → Bool) → Piece → Bool
goes_behind ends p = list_any (λ (j : Jump). ends j.target) p.jumps

-- each `break` of the switch is the last statement of its group
abbrev pub breaks_last : (Target → Bool) → List Piece → Bool
breaks_last ends [] = true
breaks_last ends (p ∷ []) = p.is_break || not (goes_behind ends p)
breaks_last ends (p ∷ q ∷ more) = not (goes_behind ends p) && breaks_last ends (q ∷ more)

-- every group but the last can't end, and has no default
abbrev pub ends_apart : List GroupText → Bool
ends_apart [] = true
ends_apart (g ∷ []) = true
ends_apart (g ∷ h ∷ more) = not (can_end g.group.does) && not g.group.has_default && ends_apart (h ∷ more)

-- own rule: then the groups are the branches of a `when`, else a chain
abbrev pub is_when : (Target → Bool) → List GroupText → Bool
is_when ends gs = ends_apart gs && list_all (λ (g : GroupText). breaks_last ends g.pieces) gs

-- a local of a group is in scope to the end of the switch
abbrev pub all_groups : List GroupText → Piece
all_groups [] = nothing
all_groups (g ∷ more) = both (sequence g.pieces) (all_groups more)

abbrev pub chained_in : Bool → Piece → Piece
chained_in true p = p
chained_in false p = record { jumps = p.jumps; guards = p.guards; assigned = p.assigned; chained = p.assigned; opens = p.opens; is_break = false }

-- ---- statements

-- what a text does, beside its piece; a statement is told its label
pub record Read : Type 0 where
  pub does : Statement
  pub piece : Option (List ℕ) → Piece

pub record Inner : Type 0 where
  pub does : JavaAct
  pub piece : Piece

abbrev pub no_type : TWritten → List Assigned
no_type w = []

abbrev pub no_class : ℕ → List Assigned
no_class n = []

abbrev pub value_piece : TExpr → Piece
value_piece x = just_assigned (assignments x)

abbrev pub maybe_piece : Option TExpr → Piece
maybe_piece None = nothing
maybe_piece (Some x) = value_piece x

-- the locals without initializer
abbrev pub name_without : List ℕ → Option TExpr → List (List ℕ)
name_without name None = name ∷ []
name_without name (Some x) = []

abbrev pub without_value : List TDeclarator → List (List ℕ)
without_value ds = flat_map (λ (d : TDeclarator). name_without d.name d.value) ds

abbrev pub simple_opens : TSimple → List (List ℕ)
simple_opens (simple.Locals ds) = without_value ds
simple_opens _ = []

abbrev pub start_opens : TForStart → List (List ℕ)
start_opens (starts.Locals ds) = without_value ds
start_opens (starts.Values xs) = []

abbrev pub simple_jumps : Position → TSimple → List Jump
simple_jumps at (simple.Break name) = record { target = break_by name; at = at; is_through = false } ∷ []
simple_jumps at (simple.Continue name) = record { target = continue_by name; at = at; is_through = false } ∷ []
simple_jumps at _ = []

abbrev pub is_break_by : TSimple → Bool
is_break_by (simple.Break name) = true
is_break_by _ = false

abbrev pub simple_piece : Position → TSimple → Piece
simple_piece at x = record {
  jumps = simple_jumps at x;
  guards = [];
  assigned = texts.of_simple assignments no_type no_class x;
  chained = [];
  opens = simple_opens x;
  is_break = is_break_by x;
}

abbrev pub start_piece : TForStart → Piece
start_piece x = record { jumps = []; guards = []; assigned = texts.of_start assignments no_type no_class x; chained = []; opens = start_opens x; is_break = false }

-- the blocks of lambdas: none of their jumps leaves them
abbrev pub inner_pieces : List Inner → Piece
inner_pieces [] = nothing
inner_pieces (b ∷ more) = both (kept b.piece) (inner_pieces more)

abbrev pub with_bodies : Piece → List Inner → Piece
with_bodies p bodies = record {
  jumps = p.jumps;
  guards = p.guards ++ (inner_pieces bodies).guards;
  assigned = p.assigned ++ (inner_pieces bodies).assigned;
  chained = p.chained ++ (inner_pieces bodies).chained;
  opens = p.opens;
  is_break = p.is_break;
}

abbrev pub unlabeled : List Read → List Piece
unlabeled xs = map (λ (x : Read). x.piece None) xs

abbrev pub does_of : List Read → JavaAct
does_of xs = block (map (λ (x : Read). x.does) xs)

abbrev pub inner_piece : Inner → Piece
inner_piece x = x.piece

-- a synchronized block, behind what its lock does
abbrev pub guarded : Position → JavaAct → Piece → Piece
guarded at does p = record {
  jumps = p.jumps;
  guards = record { at = at; does = does; jumps = p.jumps; assigned = p.assigned; unset = [] } ∷ p.guards;
  assigned = p.assigned;
  chained = p.chained;
  opens = [];
  is_break = false;
}

module _ (inner : ℕ → JavaAct) where
  abbrev pub body_by : TBody-F Inner Read GroupText Inner → Inner
  body_by (TBody-F.Statements xs) = record { does = does_of xs; piece = closed (sequence (unlabeled xs)) }
  body_by (TBody-F.Class number) = record { does = inner number; piece = nothing }

  abbrev pub group_by : TCaseGroup-F Inner Read GroupText Inner → GroupText
  group_by x = record {
    group = s.group_by inner (map-TCaseGroup Inner Read GroupText Inner JavaAct Statement CaseGroup JavaAct (λ b. b.does) (λ r. r.does) (λ g. g.group) (λ c. c.does) x);
    pieces = unlabeled x.statements;
  }

  abbrev pub catch_by : TCatch-F Inner Read GroupText Inner → Inner
  catch_by x = record {
    does = s.catch_by inner (map-TCatch Inner Read GroupText Inner JavaAct Statement CaseGroup JavaAct (λ b. b.does) (λ r. r.does) (λ g. g.group) (λ c. c.does) x);
    piece = closed (sequence (unlabeled x.statements));
  }

  abbrev pub piece_by : TStatement-F Inner Read GroupText Inner → Option (List ℕ) → Piece
  piece_by (TStatement-F.Simple at x bodies) name = with_bodies (simple_piece at x) bodies
  piece_by (TStatement-F.Block at xs right) name = closed (sequence (unlabeled xs))
  piece_by (TStatement-F.Labeled at own x) name = ended (same_target (BehindLabel own)) (x.piece (Some own))
  piece_by (TStatement-F.If at c bodies x) name = closed (both (with_bodies (value_piece c) bodies) (x.piece None))
  piece_by (TStatement-F.IfElse at c bodies x y) name = closed (both (with_bodies (value_piece c) bodies) (both (closed (x.piece None)) (y.piece None)))
  piece_by (TStatement-F.While at c bodies x) name = ended (ends_loop name) (both (with_bodies (value_piece c) bodies) (x.piece None))
  piece_by (TStatement-F.Do at x c bodies) name = ended (ends_loop name) (both (closed (x.piece None)) (with_bodies (value_piece c) bodies))
  piece_by (TStatement-F.For at start c updates bodies x) name =
      ended (ends_loop name) (both (start_piece start) (both (with_bodies (both (maybe_piece c) (just_assigned (flat_map assignments updates))) bodies) (x.piece None)))
  piece_by (TStatement-F.Each at variable xs bodies x) name = ended (ends_loop name) (both (with_bodies (value_piece xs) bodies) (x.piece None))
  piece_by (TStatement-F.Switch at x bodies gs) name = ended (ends_switch name) (both (with_bodies (value_piece x) bodies) (chained_in (is_when (ends_switch name) gs) (all_groups gs)))
  piece_by (TStatement-F.Synchronized at x bodies xs) name =
      closed (both (with_bodies (just_assigned (texts.of_lock assignments no_type no_class x)) bodies) (guarded at (does_of xs) (sequence (unlabeled xs))))
  piece_by (TStatement-F.Try at xs catches last lasts) name =
      closed (both (passed (is_some last) (both (closed (sequence (unlabeled xs))) (sequence (map inner_piece catches)))) (sequence (unlabeled lasts)))

  abbrev pub statement_by : TStatement-F Inner Read GroupText Inner → Read
  statement_by x = record {
    does = s.statement_by inner (map-TStatement Inner Read GroupText Inner JavaAct Statement CaseGroup JavaAct (λ b. b.does) (λ r. r.does) (λ g. g.group) (λ c. c.does) x);
    piece = piece_by x;
  }

  unfoldable pub read : TStatement → Read
  read = fold-TStatement Inner Read GroupText Inner body_by statement_by group_by catch_by

  unfoldable pub body : TBody → Inner
  body = fold-TBody Inner Read GroupText Inner body_by statement_by group_by catch_by

  abbrev pub statements : List TStatement → Piece
  statements xs = sequence (unlabeled (map read xs))

  abbrev pub bodies : List TBody → Piece
  bodies bs = inner_pieces (map body bs)
