-- The chain of a switch assigns what the switch assigns.
use Rattle.std.proofs.Common.{◌≡◌, Bool, true, false, ◌&&◌, List, [], ◌∷◌, ◌++◌, refl, sym, ap, ◌∙◌}
use Rattle.std.proofs.Math.Path.{fun_ext}
use Rattle.flow.specs.Acts.{Groups, Done, Group}
use Rattle.flow.specs.Flows.{Flow, Part, skip, after, seq}
use Rattle.flow.specs.Analyses.{Analysis, flow, groups}
use Rattle.flow.specs.Forms.{perhaps, groups_of, switch_default, switch_open, chain, chain_default}

pub and_true : (x : Bool) → (x && true) ≡ x
and_true true = refl
and_true false = refl

pub and_false : (x : Bool) → (x && false) ≡ false
and_false true = refl
and_false false = refl

module _ {E : Type 0} where
  pub append_nil : (xs : List E) → xs ++ [] ≡ xs
  append_nil [] = refl
  append_nil (x ∷ xs) = ap (λ l. x ∷ l) (append_nil xs)

  append_assoc : (xs ys zs : List E) → (xs ++ ys) ++ zs ≡ xs ++ (ys ++ zs)
  append_assoc [] ys zs = refl
  append_assoc (x ∷ xs) ys zs = ap (λ l. x ∷ l) (append_assoc xs ys zs)

and_assoc : (a b d : Bool) → ((a && b) && d) ≡ (a && (b && d))
and_assoc true b d = refl
and_assoc false b d = refl

module _ {E T : Type 0} where
  -- what is assigned stays so
  abbrev pub Grows : Part E T → Type 0
  Grows x = (x true).end ≡ true

  abbrev pub AllGrow : List (Part E T) → Type 0
  AllGrow [] = Unit {0}
  AllGrow (x ∷ more) = Grows x × AllGrow more

  abbrev pub made : Bool → (T → Bool) → List E → Flow E T
  made e f g = record { end = e; at = f; faults = g }

  pub flow_same : (e : Bool) (f : T → Bool) (g : List E) (h : T → Bool) (b : List E) (d : Bool) → e ≡ d → ((t : T) → f t ≡ h t) → g ≡ b → made e f g ≡ made d h b
  flow_same e f g h b d p q r = ap (λ z. made z f g) p ∙ ap (λ z. made d z g) (fun_ext q) ∙ ap (λ z. made d h z) r

  -- one test of the chain is the group, but for its end
  tested_once : (x : Part E T) (a : Bool) (g : Flow E T) → after (perhaps x skip a) g ≡ after (x a) g
  tested_once x a g = flow_same g.end (λ t. ((x a).at t && true) && g.at t) (((x a).faults ++ []) ++ g.faults) (λ t. (x a).at t && g.at t) ((x a).faults ++ g.faults) g.end
      refl (λ t. ap (λ b. b && g.at t) (and_true ((x a).at t))) (ap (λ l. l ++ g.faults) (append_nil (x a).faults))

  -- behind it the state is that before the chain
  still_true : (x : Part E T) → Grows x → (perhaps x skip true).end ≡ true
  still_true x h = and_true (x true).end ∙ h

  still_false : (x : Part E T) → (perhaps x skip false).end ≡ false
  still_false x = and_false (x false).end

  chain_true : (list : List (Part E T)) → AllGrow list → chain list true ≡ groups_of list true true
  chain_true [] h = refl
  chain_true (x ∷ more) h =
      tested_once x true (chain more (perhaps x skip true).end) ∙
      ap (λ b. after (x true) (chain more b)) (still_true x h.0) ∙
      ap (λ f. after (x true) f) (chain_true more h.1) ∙
      ap (λ b. after (x true) (groups_of more true b)) (sym h.0)

  abbrev cut : Flow E T → Flow E T
  cut f = record { end = false; at = f.at; faults = f.faults }

  chain_false : (list : List (Part E T)) (before : Bool) → chain list false ≡ cut (groups_of list false before)
  chain_false [] before = refl
  chain_false (x ∷ more) before =
      tested_once x false (chain more (perhaps x skip false).end) ∙
      ap (λ b. after (x false) (chain more b)) (still_false x) ∙
      ap (λ f. after (x false) f) (chain_false more (x false).end)

  pub chain_same : (list : List (Part E T)) → AllGrow list → (a : Bool) → chain list a ≡ switch_open list a
  chain_same list h true = chain_true list h ∙ flow_same (groups_of list true true).end (groups_of list true true).at (groups_of list true true).faults (groups_of list true true).at (groups_of list true true).faults ((groups_of list true true).end && true) (sym (and_true (groups_of list true true).end)) (λ t. refl) refl
  chain_same list h false = chain_false list true ∙ ap (λ b. made b (groups_of list false true).at (groups_of list false true).faults) (sym (and_false (groups_of list false true).end))

  last : (x : Part E T) (a : Bool) → made (x a).end (x a).at (x a).faults ≡ after (x a) (skip (x a).end)
  last x a = flow_same (x a).end (x a).at (x a).faults (λ t. (x a).at t && true) ((x a).faults ++ []) (x a).end refl (λ t. sym (and_true ((x a).at t))) (sym (append_nil (x a).faults))

  default_true : (x : Part E T) (more : List (Part E T)) → Grows x → AllGrow more → chain_default x more true ≡ groups_of (x ∷ more) true true
  default_true x [] h hs = last x true
  default_true x (y ∷ more) h hs =
      tested_once x true (chain_default y more (perhaps x skip true).end) ∙
      ap (λ b. after (x true) (chain_default y more b)) (still_true x h) ∙
      ap (λ f. after (x true) f) (default_true y more hs.0 hs.1) ∙
      ap (λ b. after (x true) (groups_of (y ∷ more) true b)) (sym h)

  default_false : (x : Part E T) (more : List (Part E T)) (before : Bool) → chain_default x more false ≡ groups_of (x ∷ more) false before
  default_false x [] before = last x false
  default_false x (y ∷ more) before =
      tested_once x false (chain_default y more (perhaps x skip false).end) ∙
      ap (λ b. after (x false) (chain_default y more b)) (still_false x) ∙
      ap (λ f. after (x false) f) (default_false y more (x false).end)

  pub chain_default_same : (x : Part E T) (more : List (Part E T)) → Grows x → AllGrow more → (a : Bool) → chain_default x more a ≡ switch_default (x ∷ more) a
  chain_default_same x more h hs true = default_true x more h hs
  chain_default_same x more h hs false = default_false x more true

  -- ---- order is kept by another grouping

  pub seq_assoc : (x y z : Part E T) (a : Bool) → seq (seq x y) z a ≡ seq x (seq y z) a
  seq_assoc x y z a =
      let f : Flow E T = x a in let g : Flow E T = y f.end in let h : Flow E T = z g.end in
      flow_same h.end (λ t. (f.at t && g.at t) && h.at t) ((f.faults ++ g.faults) ++ h.faults) (λ t. f.at t && (g.at t && h.at t)) (f.faults ++ (g.faults ++ h.faults)) h.end
      refl (λ t. and_assoc (f.at t) (g.at t) (h.at t)) (append_assoc f.faults g.faults h.faults)

  pub seq_skip : (x : Part E T) (a : Bool) → seq x skip a ≡ made (x a).end (x a).at (x a).faults
  seq_skip x a = sym (last x a)

-- ---- the groups of a switch are such a list

module _ {E T : Type 0} (same : T → T → Bool) (k : Analysis E) where
  abbrev pub parts : Groups E T → List (Part E T)
  parts Done = []
  parts (Group x more) = flow same k x ∷ parts more

  pub groups_are : (gs : Groups E T) (a c : Bool) → groups same k gs a c ≡ groups_of (parts gs) a c
  groups_are Done a c = refl
  groups_are (Group x more) a c = ap (λ f. after (flow same k x (a && c)) f) (groups_are more a (flow same k x (a && c)).end)
