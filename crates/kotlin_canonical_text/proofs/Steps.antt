-- What is derived, step by step: a form in one of its ways, a token that a terminal takes, an action.
use Rattle.std.proofs.Common.{◌≡◌, ℕ, suc, true, List, [], ◌∷◌, ◌++◌, Some, None, refl, ap, ◌∙◌}
use Rattle.std.specs.Prelude.{if◌then◌else◌, nat_lt, max}
use Rattle.grammar.specs.declared.symbols.Symbol.TheVariants as y
use Rattle.grammar.specs.Grammar.{Derives}
use Rattle.grammar.specs.Machine.{◌>>=◌}
use Rattle.kotlin_grammar.specs.declared.letters.Term.{Term}
use Rattle.kotlin_grammar.specs.declared.letters.Way.{Way}
use Rattle.kotlin_grammar.specs.declared.letters.Act.{Act}
use Rattle.kotlin_grammar.specs.declared.built.Built.{Built}
use Rattle.kotlin_grammar.specs.declared.levels.Parts.TheVariants as n
use Rattle.kotlin_grammar.specs.declared.levels.Level.TheVariants as v
use Rattle.kotlin_grammar.specs.Table.{Symbols, written, owner}
use Rattle.kotlin_grammar.specs.Ahead.{Letters}
use Rattle.kotlin_grammar.specs.Taking.{takes, relaxed}
use Rattle.kotlin_grammar.specs.Build.{build}
use Rattle.kotlin_grammar.specs.Meaning.{taken}
use Rattle.kotlin_grammar.specs.Depth.{acts, levels, levels_by, deepest, measured, max_depth}
use Rattle.kotlin_grammar.specs.Reading.{profile}

-- in some number of steps
pub record Der (s : Symbols) (b : Built) (ls : Letters) (new : Built) : Type 0 where
  pub steps : ℕ
  pub derives : Derives profile steps s b ls new

pub way : (x : Way) {s : Symbols} {b : Built} {ls : Letters} {new : Built} → Der (written x ++ s) b ls new → Der (y.Form (owner x) ∷ s) b ls new
unfolding Derives
way x h = record { steps = suc h.steps; derives = (x, refl, h.derives) }

pub take : {c : Term} {s : Symbols} {b u : Built} {ls rest : Letters} {new : Built} → takes taken c b ls ≡ Some (u, rest) → Der s u rest new → Der (y.Term c ∷ s) b ls new
unfolding Derives
take {u = u} {rest = rest} is h = record { steps = suc h.steps; derives = ((u, rest), is, h.derives) }

-- where a line end behind it would be a blank
pub take_blank : {c : Term} {s : Symbols} {b u : Built} {ls rest : Letters} {new : Built} → relaxed rest ≡ rest → takes taken c b ls ≡ Some (u, relaxed rest) → Der s u rest new → Der (y.Term c ∷ s) b ls new
take_blank {u = u} e is h = take (is ∙ ap (λ z. Some (u, z)) e) h

pub act : {c : Act} {s : Symbols} {b u : Built} {ls : Letters} {new : Built} → acts c b ≡ Some u → Der s u ls new → Der (y.Act c ∷ s) b ls new
unfolding Derives
act {u = u} is h = record { steps = suc h.steps; derives = (u, is, h.derives) }

pub done : (b : Built) → Der [] b [] b
unfolding Derives
done b = record { steps = 1; derives = (refl, refl) }

abbrev pub Fits : ℕ → Type 0
Fits d = nat_lt d max_depth ≡ true

-- an action that makes a tree of no part, of one part, of two parts, of three
pub makes_leaf : (c : Act) (b : Built) → levels c ≡ levels_by n.Zero n.Zero v.Deeper → acts c b ≡ build c (record b { depths = 1 ∷ b.depths })
unfolding acts deepest
makes_leaf c b is = ap (λ z. measured z b.depths >>= λ ds. build c (record b { depths = ds })) is

pub makes_one : (c : Act) (b : Built) (d : ℕ) (ds : List ℕ) → levels c ≡ levels_by n.One n.Zero v.Deeper → b.depths ≡ d ∷ ds → Fits d → acts c b ≡ build c (record b { depths = suc d ∷ ds })
unfolding acts deepest
makes_one c b d ds is has fits =
    ap (λ z. measured z b.depths >>= λ ds. build c (record b { depths = ds })) is
    ∙ ap (λ z. measured (levels_by n.One n.Zero v.Deeper) z >>= λ ds. build c (record b { depths = ds })) has
    ∙ ap (λ z. (if z then Some (suc d ∷ ds) else None) >>= λ ds. build c (record b { depths = ds })) fits

pub makes_two : (c : Act) (b : Built) (d g : ℕ) (ds : List ℕ) → levels c ≡ levels_by n.Two n.Zero v.Deeper → b.depths ≡ d ∷ g ∷ ds → Fits (max d g) → acts c b ≡ build c (record b { depths = suc (max d g) ∷ ds })
unfolding acts deepest
makes_two c b d g ds is has fits =
    ap (λ z. measured z b.depths >>= λ ds. build c (record b { depths = ds })) is
    ∙ ap (λ z. measured (levels_by n.Two n.Zero v.Deeper) z >>= λ ds. build c (record b { depths = ds })) has
    ∙ ap (λ z. (if z then Some (suc (max d g) ∷ ds) else None) >>= λ ds. build c (record b { depths = ds })) fits

pub makes_three : (c : Act) (b : Built) (d g i : ℕ) (ds : List ℕ) → levels c ≡ levels_by n.Three n.Zero v.Deeper → b.depths ≡ d ∷ g ∷ i ∷ ds → Fits (max (max d g) i) → acts c b ≡ build c (record b { depths = suc (max (max d g) i) ∷ ds })
unfolding acts deepest
makes_three c b d g i ds is has fits =
    ap (λ z. measured z b.depths >>= λ ds. build c (record b { depths = ds })) is
    ∙ ap (λ z. measured (levels_by n.Three n.Zero v.Deeper) z >>= λ ds. build c (record b { depths = ds })) has
    ∙ ap (λ z. (if z then Some (suc (max (max d g) i) ∷ ds) else None) >>= λ ds. build c (record b { depths = ds })) fits

pub makes_under : (c : Act) (b : Built) (d : ℕ) (ds : List ℕ) → levels c ≡ levels_by n.Zero n.One v.Deeper → b.depths ≡ d ∷ ds → acts c b ≡ build c (record b { depths = 1 ∷ ds })
unfolding acts deepest
makes_under c b d ds is has =
    ap (λ z. measured z b.depths >>= λ ds. build c (record b { depths = ds })) is
    ∙ ap (λ z. measured (levels_by n.Zero n.One v.Deeper) z >>= λ ds. build c (record b { depths = ds })) has

pub makes_over : (c : Act) (b : Built) (d g : ℕ) (ds : List ℕ) → levels c ≡ levels_by n.One n.One v.Deeper → b.depths ≡ d ∷ g ∷ ds → Fits d → acts c b ≡ build c (record b { depths = suc d ∷ ds })
unfolding acts deepest
makes_over c b d g ds is has fits =
    ap (λ z. measured z b.depths >>= λ ds. build c (record b { depths = ds })) is
    ∙ ap (λ z. measured (levels_by n.One n.One v.Deeper) z >>= λ ds. build c (record b { depths = ds })) has
    ∙ ap (λ z. (if z then Some (suc d ∷ ds) else None) >>= λ ds. build c (record b { depths = ds })) fits
