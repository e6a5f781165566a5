-- The brackets of each way of the table: a class ends with the `}` of its body, and no other `}` closes the last bracket that is open.
use Rattle.std.proofs.Common.{◌≡◌, ℕ, zero, suc, Bool, true, false, [], ◌∷◌, ◌++◌, refl, ◌∙◌}
use Rattle.std.specs.Prelude.{⊤, if◌then◌else◌}
use Rattle.grammar.specs.declared.symbols.Symbol.TheVariants as y
use Rattle.kotlin_grammar.specs.declared.letters.Kind.TheVariants as k
use Rattle.kotlin_grammar.specs.declared.letters.Term.{Term}
use Rattle.kotlin_grammar.specs.declared.letters.Form.{Form}
use Rattle.kotlin_grammar.specs.declared.letters.Form.TheVariants as f
use Rattle.kotlin_grammar.specs.declared.letters.Way.{Way}
use Rattle.kotlin_grammar.specs.declared.letters.Way.TheVariants as w
use Rattle.kotlin_grammar.specs.Table.{Symbols, written, owner, accepts, is_end}
use Rattle.kotlin_canonical_files.proofs.Sides.{Side, term_side}

-- where one is in a piece: behind so many open brackets, or behind its end
pub data Spot : Type 0 where
  Inside : ℕ → Spot
  Past : Spot

abbrev pub after : Side → ℕ → Spot
after Side.Neither n = Spot.Inside n
after Side.Opens n = Spot.Inside (suc n)
after Side.Closes zero = Spot.Inside zero
after Side.Closes (suc n) = Spot.Inside n
after Side.ClosesCurly zero = Spot.Past
after Side.ClosesCurly (suc zero) = Spot.Past
after Side.ClosesCurly (suc (suc n)) = Spot.Inside (suc n)

abbrev is_past : Spot → Bool
is_past (Spot.Inside n) = false
is_past Spot.Past = true

-- how a form goes on: with no `{`, with all brackets paired, with one more closed, as a class
pub data Manner : Type 0 where
  Bare : Manner
  Even : Manner
  Shuts : Manner
  Whole : Manner
  Head : Manner

abbrev pub manner : Form → Manner
manner f.FileHead = Manner.Head
manner f.AfterLine = Manner.Head
manner f.Lines = Manner.Head
manner f.Qualified = Manner.Bare
manner f.QualifiedMore = Manner.Bare
manner f.ClassForm = Manner.Whole
manner f.ClassWord = Manner.Bare
manner f.Modifiers = Manner.Bare
manner f.TypeParams = Manner.Bare
manner f.TypeParam = Manner.Bare
manner f.MoreTypeParams = Manner.Bare
manner f.Supers = Manner.Bare
manner f.Super = Manner.Bare
manner f.SuperRound = Manner.Bare
manner f.MoreSupers = Manner.Bare
manner f.Typed = Manner.Bare
manner f.ForRest = Manner.Shuts
manner f.FirstCase = Manner.Shuts
manner f.FirstBody = Manner.Shuts
manner f.FirstElseBody = Manner.Shuts
manner f.Type = Manner.Bare
manner f.TypePath = Manner.Bare
manner f.PathMore = Manner.Bare
manner f.PathNext = Manner.Bare
manner f.Nullable = Manner.Bare
manner f.TypeArguments = Manner.Bare
manner f.MoreTypes = Manner.Bare
manner _ = Manner.Even

abbrev pub form_walk : Manner → Spot → (Spot → Bool) → Bool
form_walk m Spot.Past more = false
form_walk Manner.Bare (Spot.Inside n) more = more (Spot.Inside n)
form_walk Manner.Even (Spot.Inside zero) more = false
form_walk Manner.Even (Spot.Inside (suc n)) more = more (Spot.Inside (suc n))
form_walk Manner.Shuts (Spot.Inside zero) more = false
form_walk Manner.Shuts (Spot.Inside (suc zero)) more = false
form_walk Manner.Shuts (Spot.Inside (suc (suc n))) more = more (Spot.Inside (suc n))
form_walk Manner.Whole (Spot.Inside zero) more = more Spot.Past
form_walk Manner.Whole (Spot.Inside (suc n)) more = false
form_walk Manner.Head (Spot.Inside n) more = false

abbrev pub term_walk : Term → Spot → (Spot → Bool) → Bool
term_walk c Spot.Past more = false
term_walk c (Spot.Inside n) more = if is_end c then more (Spot.Inside n) else (if accepts c k.Broken then false else more (after (term_side c) n))

-- whether the symbols end a piece, and with their last token
unfoldable pub walk : Spot → Symbols → Bool
walk u [] = is_past u
walk u (y.Term c ∷ s) = term_walk c u (λ z. walk z s)
walk u (y.Act a ∷ s) = walk u s
walk u (y.Form n ∷ s) = form_walk (manner n) u (λ z. walk z s)

abbrev Stays : Manner → Way → Type 0
Stays Manner.Bare x = (n : ℕ) (s : Symbols) → walk (Spot.Inside n) (written x ++ s) ≡ walk (Spot.Inside n) s
Stays Manner.Even x = (n : ℕ) (s : Symbols) → walk (Spot.Inside (suc n)) (written x ++ s) ≡ walk (Spot.Inside (suc n)) s
Stays Manner.Shuts x = (n : ℕ) (s : Symbols) → walk (Spot.Inside (suc (suc n))) (written x ++ s) ≡ walk (Spot.Inside (suc n)) s
Stays Manner.Whole x = (n : ℕ) (s : Symbols) → walk (Spot.Inside zero) (written x ++ s) ≡ walk Spot.Past s
Stays Manner.Head x = ⊤

stays : (x : Way) → Stays (manner (owner x)) x
unfolding walk written accepts
stays w.FilePackage = tt
stays w.FileBare = tt
stays w.AfterLineMore = tt
stays w.AfterLineEnd = tt
stays w.LinesImport = tt
stays w.LinesClass = tt
stays w.LinesEnd = tt
stays w.QualifiedName = λ n s. refl
stays w.QualifiedDot = λ n s. refl
stays w.QualifiedEnd = λ n s. refl
stays w.ClassWhole = λ n s. refl
stays w.ClassPlain = λ n s. refl
stays w.ClassFun = λ n s. refl
stays w.ModifiersWord = λ n s. refl
stays w.ModifiersAt = λ n s. refl
stays w.ModifiersEnd = λ n s. refl
stays w.TypeParamsSome = λ n s. refl
stays w.TypeParamsNone = λ n s. refl
stays w.TypeParamOne = λ n s. refl
stays w.TypeParamsMore = λ n s. refl
stays w.TypeParamsEnd = λ n s. refl
stays w.SupersSome = λ n s. refl
stays w.SupersNone = λ n s. refl
stays w.SuperOne = λ n s. refl
stays w.SuperCalled = λ n s. refl
stays w.SuperPlain = λ n s. refl
stays w.SupersMore = λ n s. refl
stays w.SupersEnd = λ n s. refl
stays w.TypedSome = λ n s. refl
stays w.TypedNone = λ n s. refl
stays w.MembersSome = λ n s. refl
stays w.MembersEnds = λ n s. refl
stays w.MembersNone = λ n s. refl
stays w.MembersMore = λ n s. refl
stays w.MembersEnd = λ n s. refl
stays w.NextMemberSome = λ n s. refl
stays w.NextMemberNone = λ n s. refl
stays w.MemberInit = λ n s. refl
stays w.MemberCompanion = λ n s. refl
stays w.MemberModified = λ n s. refl
stays w.ModifiedProperty = λ n s. refl
stays w.ModifiedFunction = λ n s. refl
stays w.ModifiedConstructor = λ n s. refl
stays w.DeclaredName = λ n s. refl
stays w.ValueSome = λ n s. refl
stays w.ValueNone = λ n s. refl
stays w.SetterSome = λ n s. refl
stays w.SetterNone = λ n s. refl
stays w.ParamsWhole = λ n s. refl
stays w.ParamsSome = λ n s. refl
stays w.ParamsNone = λ n s. refl
stays w.ParamOne = λ n s. refl
stays w.ParamsMore = λ n s. refl
stays w.ParamsEnd = λ n s. refl
stays w.BodySome = λ n s. refl
stays w.BodyNone = λ n s. refl
stays w.DelegationSome = λ n s. refl
stays w.DelegationNone = λ n s. refl
stays w.BlockWhole = λ n s. refl
stays w.StatementsSome = λ n s. refl
stays w.StatementsEnds = λ n s. refl
stays w.StatementsNone = λ n s. refl
stays w.StatementsMore = λ n s. refl
stays w.StatementsEnd = λ n s. refl
stays w.NextStatementSome = λ n s. refl
stays w.NextStatementNone = λ n s. refl
stays w.StatementLocal = λ n s. refl
stays w.StatementLabelled = λ n s. refl
stays w.StatementLoop = λ n s. refl
stays w.StatementIf = λ n s. refl
stays w.StatementWhen = λ n s. refl
stays w.StatementBreak = λ n s. refl
stays w.StatementContinue = λ n s. refl
stays w.StatementReturn = λ n s. refl
stays w.StatementThrow = λ n s. refl
stays w.StatementTry = λ n s. refl
stays w.StatementSynchronized = λ n s. refl
stays w.StatementPrefix = λ n s. refl
stays w.StatementPlain = λ n s. refl
stays w.LocalSome = λ n s. refl
stays w.LocalNone = λ n s. refl
stays w.LoopWhile = λ n s. refl
stays w.LoopDo = λ n s. refl
stays w.LoopFor = λ n s. refl
stays w.ForRange = λ n s. refl
stays w.ForEach = λ n s. refl
stays w.IfBlock = λ n s. refl
stays w.IfValue = λ n s. refl
stays w.ElseSome = λ n s. refl
stays w.ElseNone = λ n s. refl
stays w.ElseBlock = λ n s. refl
stays w.ElseIf = λ n s. refl
stays w.FirstElse = λ n s. refl
stays w.FirstNext = λ n s. refl
stays w.FirstBranch = λ n s. refl
stays w.FirstChoice = λ n s. refl
stays w.FirstElseBranch = λ n s. refl
stays w.FirstElseChoice = λ n s. refl
stays w.BranchElse = λ n s. refl
stays w.BranchNext = λ n s. refl
stays w.ChoiceElse = λ n s. refl
stays w.ChoiceNext = λ n s. refl
stays w.LabelsSome = λ n s. refl
stays w.OptionalEndsSome = λ n s. refl
stays w.OptionalEndsNone = λ n s. refl
stays w.TargetSome = λ n s. refl
stays w.TargetNone = λ n s. refl
stays w.GivenSome = λ n s. refl
stays w.GivenNone = λ n s. refl
stays w.CatchesSome = λ n s. refl
stays w.CatchesEnd = λ n s. refl
stays w.FinallySome = λ n s. refl
stays w.FinallyNone = λ n s. refl
stays w.TailsAll = λ n s. refl
stays w.StoreSome = λ n s. refl
stays w.StoreNone = λ n s. refl
stays w.ExprIf = λ n s. refl
stays w.ExprOr = λ n s. refl
stays w.OrWhole = λ n s. refl
stays w.OrMore = λ n s. refl
stays w.OrEnd = λ n s. refl
stays w.AndWhole = λ n s. refl
stays w.AndMore = λ n s. refl
stays w.AndEnd = λ n s. refl
stays w.EqualWhole = λ n s. refl
stays w.EqualMore = λ n s. refl
stays w.EqualEnd = λ n s. refl
stays w.CompareWhole = λ n s. refl
stays w.CompareMore = λ n s. refl
stays w.CompareEnd = λ n s. refl
stays w.IsWhole = λ n s. refl
stays w.IsMore = λ n s. refl
stays w.IsEnd = λ n s. refl
stays w.InfixWhole = λ n s. refl
stays w.InfixMore = λ n s. refl
stays w.InfixEnd = λ n s. refl
stays w.SumWhole = λ n s. refl
stays w.SumMore = λ n s. refl
stays w.SumEnd = λ n s. refl
stays w.ProductWhole = λ n s. refl
stays w.ProductMore = λ n s. refl
stays w.ProductEnd = λ n s. refl
stays w.CastWhole = λ n s. refl
stays w.CastMore = λ n s. refl
stays w.CastEnd = λ n s. refl
stays w.PrefixedMark = λ n s. refl
stays w.PrefixedOperand = λ n s. refl
stays w.OperandWhen = λ n s. refl
stays w.OperandPlain = λ n s. refl
stays w.PlainLiteral = λ n s. refl
stays w.PlainThis = λ n s. refl
stays w.PlainSuper = λ n s. refl
stays w.PlainParen = λ n s. refl
stays w.PlainRun = λ n s. refl
stays w.PlainNamed = λ n s. refl
stays w.PlainGeneric = λ n s. refl
stays w.NamedCall = λ n s. refl
stays w.NamedOnly = λ n s. refl
stays w.GenericCall = λ n s. refl
stays w.GenericLambda = λ n s. refl
stays w.SuffixDot = λ n s. refl
stays w.SuffixIndex = λ n s. refl
stays w.SuffixMark = λ n s. refl
stays w.SuffixNullable = λ n s. refl
stays w.SuffixLambda = λ n s. refl
stays w.SuffixNamedLambda = λ n s. refl
stays w.SuffixClass = λ n s. refl
stays w.SuffixesEnd = λ n s. refl
stays w.DotNamed = λ n s. refl
stays w.DotGeneric = λ n s. refl
stays w.DottedCall = λ n s. refl
stays w.DottedOnly = λ n s. refl
stays w.DottedGenericCall = λ n s. refl
stays w.DottedGenericLambda = λ n s. refl
stays w.FacedNullable = λ n s. refl
stays w.FacedPlain = λ n s. refl
stays w.LambdaPlain = λ n s. refl
stays w.LambdaNamed = λ n s. refl
stays w.NamesSome = λ n s. refl
stays w.NamesNone = λ n s. refl
stays w.NamesMore = λ n s. refl
stays w.NamesEnd = λ n s. refl
stays w.ArgsSome = λ n s. refl
stays w.ArgsNone = λ n s. refl
stays w.ExprsMore = λ n s. refl
stays w.ExprsEnd = λ n s. refl
stays w.TypeWhole = λ n s. refl
stays w.PathPlain = λ n s. refl
stays w.PathApplied = λ n s. refl
stays w.PathDot = λ n s. refl
stays w.PathEnd = λ n s. refl
stays w.NextPlain = λ n s. refl
stays w.NextApplied = λ n s. refl
stays w.NullableSome = λ n s. refl
stays w.NullableNone = λ n s. refl
stays w.TypeArgumentsWhole = λ n s. refl
stays w.TypesMore = λ n s. refl
stays w.TypesEnd = λ n s. refl

by_manner : (i : Manner) (x : Way) → Stays i x → (u : Spot) (s : Symbols) → form_walk i u (λ z. walk z s) ≡ true → walk u (written x ++ s) ≡ true
by_manner i x stay Spot.Past s is = absurd (cc is)
by_manner Manner.Bare x stay (Spot.Inside n) s is = stay n s ∙ is
by_manner Manner.Even x stay (Spot.Inside zero) s is = absurd (cc is)
by_manner Manner.Even x stay (Spot.Inside (suc n)) s is = stay n s ∙ is
by_manner Manner.Shuts x stay (Spot.Inside zero) s is = absurd (cc is)
by_manner Manner.Shuts x stay (Spot.Inside (suc zero)) s is = absurd (cc is)
by_manner Manner.Shuts x stay (Spot.Inside (suc (suc n))) s is = stay n s ∙ is
by_manner Manner.Whole x stay (Spot.Inside zero) s is = stay 0 s ∙ is
by_manner Manner.Whole x stay (Spot.Inside (suc n)) s is = absurd (cc is)
by_manner Manner.Head x stay (Spot.Inside n) s is = absurd (cc is)

-- each way to write a form goes on as the form does
pub way_walk : (x : Way) (u : Spot) (s : Symbols) → walk u (y.Form (owner x) ∷ s) ≡ true → walk u (written x ++ s) ≡ true
unfolding walk
way_walk x u s is = by_manner (manner (owner x)) x (stays x) u s is
