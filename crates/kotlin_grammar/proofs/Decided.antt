-- The grammar passes the test: one kind ahead decides each form.
use Rattle.std.proofs.Common.{◌≡◌, ℕ, zero, suc, ◌+◌, ◌*◌, ◌<◌, ◌≤◌, Bool, true, false, List, [], ◌∷◌, length, get_or, refl, nat_le, subst, arith}
use Rattle.std.specs.Prelude.{if◌then◌else◌, nat_eq}
use Rattle.std.proofs.lemmas.Bool.Decides.{nat_tests}
use Rattle.grammar.specs.Certificate.{Certificate, form_first, first, implies, may_follow, weight_of, terms}
use Rattle.kotlin_grammar.specs.declared.letters.Kind.{Kind}
use Rattle.kotlin_grammar.specs.declared.letters.Kind.TheVariants as k
use Rattle.kotlin_grammar.specs.declared.letters.Term.{Term}
use Rattle.kotlin_grammar.specs.declared.letters.Form.{Form}
use Rattle.kotlin_grammar.specs.declared.letters.Form.TheVariants as f
use Rattle.kotlin_grammar.specs.declared.letters.Way.{Way}
use Rattle.kotlin_grammar.specs.declared.letters.Way.TheVariants as w
use Rattle.kotlin_grammar.specs.declared.ahead.Letter.{Letter}
use Rattle.kotlin_grammar.specs.Table.{accepts, owner, written, code}
use Rattle.kotlin_grammar.specs.Choice.{choose}
use Rattle.kotlin_grammar.specs.Taking.{size}
use Rattle.kotlin_grammar.proofs.FirstAndFollowing.{begins, follows, may_be_empty, weight}
use Rattle.kotlin_grammar.proofs.Lists.{way_code, form_code, kinds, kind_at, kind_within, way_same, form_same}

-- the certificate
abbrev pub certificate : Certificate Letter Kind Term Form
certificate = record { accepts = accepts; is_end = λ c. nat_eq (code c) 0; begins = begins; may_be_empty = may_be_empty; follows = follows; weight = weight; size = size }

abbrev all : (Kind → Bool) → List Kind → Bool
all p [] = true
all p (c ∷ cs) = if p c then all p cs else false

if_true : (a b : Bool) → (if a then b else false) ≡ true → (a ≡ true) × (b ≡ true)
if_true true b h = (refl, h)
if_true false b h = absurd (cc h)

all_get : (p : Kind → Bool) (cs : List Kind) (i : ℕ) → all p cs ≡ true → i < length cs → p (get_or cs i k.End) ≡ true
all_get p [] i h l = absurd (omega arith)
all_get p (c ∷ cs) zero h l = (if_true (p c) _ h).0
all_get p (c ∷ cs) (suc i) h l = all_get p cs i (if_true (p c) _ h).1 (omega arith)

everywhere : (p : Kind → Bool) → all p kinds ≡ true → (c : Kind) → p c ≡ true
everywhere p h c = subst (λ z. p z ≡ true) (kind_at c) (all_get p kinds (code c) h (kind_within c))

-- Of a way and a kind: it is chosen where it may come first, what begins it begins its form, and what follows may follow.
abbrev choice_test : Way → Kind → Bool
choice_test q c = implies (first certificate (written q) (follows (owner q) c) c) (nat_eq (way_code (choose (owner q) c)) (way_code q))

abbrev closed_test : Bool → Way → Kind → Bool
closed_test after q c = implies (first certificate (written q) after c) (form_first certificate (owner q) after c)

abbrev follow_test : Way → Kind → Bool
follow_test q c = may_follow certificate (follows (owner q) c) (written q) c

abbrev test : Way → Kind → Bool
test q c = if choice_test q c then (if closed_test false q c then (if closed_test true q c then follow_test q c else false) else false) else false

passed : (q : Way) → all (test q) kinds ≡ true
unfolding kinds written accepts choose
passed w.FilePackage = refl
passed w.FileBare = refl
passed w.AfterLineMore = refl
passed w.AfterLineEnd = refl
passed w.LinesImport = refl
passed w.LinesClass = refl
passed w.LinesEnd = refl
passed w.QualifiedName = refl
passed w.QualifiedDot = refl
passed w.QualifiedEnd = refl
passed w.ClassWhole = refl
passed w.ClassPlain = refl
passed w.ClassFun = refl
passed w.ModifiersWord = refl
passed w.ModifiersAt = refl
passed w.ModifiersEnd = refl
passed w.TypeParamsSome = refl
passed w.TypeParamsNone = refl
passed w.TypeParamOne = refl
passed w.TypeParamsMore = refl
passed w.TypeParamsEnd = refl
passed w.SupersSome = refl
passed w.SupersNone = refl
passed w.SuperOne = refl
passed w.SuperCalled = refl
passed w.SuperPlain = refl
passed w.SupersMore = refl
passed w.SupersEnd = refl
passed w.TypedSome = refl
passed w.TypedNone = refl
passed w.MembersSome = refl
passed w.MembersEnds = refl
passed w.MembersNone = refl
passed w.MembersMore = refl
passed w.MembersEnd = refl
passed w.NextMemberSome = refl
passed w.NextMemberNone = refl
passed w.MemberInit = refl
passed w.MemberCompanion = refl
passed w.MemberModified = refl
passed w.ModifiedProperty = refl
passed w.ModifiedFunction = refl
passed w.ModifiedConstructor = refl
passed w.DeclaredName = refl
passed w.ValueSome = refl
passed w.ValueNone = refl
passed w.SetterSome = refl
passed w.SetterNone = refl
passed w.ParamsWhole = refl
passed w.ParamsSome = refl
passed w.ParamsNone = refl
passed w.ParamOne = refl
passed w.ParamsMore = refl
passed w.ParamsEnd = refl
passed w.BodySome = refl
passed w.BodyNone = refl
passed w.DelegationSome = refl
passed w.DelegationNone = refl
passed w.BlockWhole = refl
passed w.StatementsSome = refl
passed w.StatementsEnds = refl
passed w.StatementsNone = refl
passed w.StatementsMore = refl
passed w.StatementsEnd = refl
passed w.NextStatementSome = refl
passed w.NextStatementNone = refl
passed w.StatementLocal = refl
passed w.StatementLabelled = refl
passed w.StatementLoop = refl
passed w.StatementIf = refl
passed w.StatementWhen = refl
passed w.StatementBreak = refl
passed w.StatementContinue = refl
passed w.StatementReturn = refl
passed w.StatementThrow = refl
passed w.StatementTry = refl
passed w.StatementSynchronized = refl
passed w.StatementPrefix = refl
passed w.StatementPlain = refl
passed w.LocalSome = refl
passed w.LocalNone = refl
passed w.LoopWhile = refl
passed w.LoopDo = refl
passed w.LoopFor = refl
passed w.ForRange = refl
passed w.ForEach = refl
passed w.IfBlock = refl
passed w.IfValue = refl
passed w.ElseSome = refl
passed w.ElseNone = refl
passed w.ElseBlock = refl
passed w.ElseIf = refl
passed w.FirstElse = refl
passed w.FirstNext = refl
passed w.FirstBranch = refl
passed w.FirstChoice = refl
passed w.FirstElseBranch = refl
passed w.FirstElseChoice = refl
passed w.BranchElse = refl
passed w.BranchNext = refl
passed w.ChoiceElse = refl
passed w.ChoiceNext = refl
passed w.LabelsSome = refl
passed w.OptionalEndsSome = refl
passed w.OptionalEndsNone = refl
passed w.TargetSome = refl
passed w.TargetNone = refl
passed w.GivenSome = refl
passed w.GivenNone = refl
passed w.CatchesSome = refl
passed w.CatchesEnd = refl
passed w.FinallySome = refl
passed w.FinallyNone = refl
passed w.TailsAll = refl
passed w.StoreSome = refl
passed w.StoreNone = refl
passed w.ExprIf = refl
passed w.ExprOr = refl
passed w.OrWhole = refl
passed w.OrMore = refl
passed w.OrEnd = refl
passed w.AndWhole = refl
passed w.AndMore = refl
passed w.AndEnd = refl
passed w.EqualWhole = refl
passed w.EqualMore = refl
passed w.EqualEnd = refl
passed w.CompareWhole = refl
passed w.CompareMore = refl
passed w.CompareEnd = refl
passed w.IsWhole = refl
passed w.IsMore = refl
passed w.IsEnd = refl
passed w.InfixWhole = refl
passed w.InfixMore = refl
passed w.InfixEnd = refl
passed w.SumWhole = refl
passed w.SumMore = refl
passed w.SumEnd = refl
passed w.ProductWhole = refl
passed w.ProductMore = refl
passed w.ProductEnd = refl
passed w.CastWhole = refl
passed w.CastMore = refl
passed w.CastEnd = refl
passed w.PrefixedMark = refl
passed w.PrefixedOperand = refl
passed w.OperandWhen = refl
passed w.OperandPlain = refl
passed w.PlainLiteral = refl
passed w.PlainThis = refl
passed w.PlainSuper = refl
passed w.PlainParen = refl
passed w.PlainRun = refl
passed w.PlainNamed = refl
passed w.PlainGeneric = refl
passed w.NamedCall = refl
passed w.NamedOnly = refl
passed w.GenericCall = refl
passed w.GenericLambda = refl
passed w.SuffixDot = refl
passed w.SuffixIndex = refl
passed w.SuffixMark = refl
passed w.SuffixNullable = refl
passed w.SuffixLambda = refl
passed w.SuffixNamedLambda = refl
passed w.SuffixClass = refl
passed w.SuffixesEnd = refl
passed w.DotNamed = refl
passed w.DotGeneric = refl
passed w.DottedCall = refl
passed w.DottedOnly = refl
passed w.DottedGenericCall = refl
passed w.DottedGenericLambda = refl
passed w.FacedNullable = refl
passed w.FacedPlain = refl
passed w.LambdaPlain = refl
passed w.LambdaNamed = refl
passed w.NamesSome = refl
passed w.NamesNone = refl
passed w.NamesMore = refl
passed w.NamesEnd = refl
passed w.ArgsSome = refl
passed w.ArgsNone = refl
passed w.ExprsMore = refl
passed w.ExprsEnd = refl
passed w.TypeWhole = refl
passed w.PathPlain = refl
passed w.PathApplied = refl
passed w.PathDot = refl
passed w.PathEnd = refl
passed w.NextPlain = refl
passed w.NextApplied = refl
passed w.NullableSome = refl
passed w.NullableNone = refl
passed w.TypeArgumentsWhole = refl
passed w.TypesMore = refl
passed w.TypesEnd = refl

own_passed : (m : Form) → all (λ c. nat_eq (form_code (owner (choose m c))) (form_code m)) kinds ≡ true
unfolding kinds choose
own_passed f.FileHead = refl
own_passed f.AfterLine = refl
own_passed f.Lines = refl
own_passed f.Qualified = refl
own_passed f.QualifiedMore = refl
own_passed f.ClassForm = refl
own_passed f.ClassWord = refl
own_passed f.Modifiers = refl
own_passed f.TypeParams = refl
own_passed f.TypeParam = refl
own_passed f.MoreTypeParams = refl
own_passed f.Supers = refl
own_passed f.Super = refl
own_passed f.SuperRound = refl
own_passed f.MoreSupers = refl
own_passed f.Typed = refl
own_passed f.Members = refl
own_passed f.MoreMembers = refl
own_passed f.NextMember = refl
own_passed f.Member = refl
own_passed f.Modified = refl
own_passed f.Declared = refl
own_passed f.Value = refl
own_passed f.Setter = refl
own_passed f.Params = refl
own_passed f.ParamList = refl
own_passed f.Param = refl
own_passed f.MoreParams = refl
own_passed f.Body = refl
own_passed f.Delegation = refl
own_passed f.Block = refl
own_passed f.Statements = refl
own_passed f.MoreStatements = refl
own_passed f.NextStatement = refl
own_passed f.Statement = refl
own_passed f.LocalValue = refl
own_passed f.Loop = refl
own_passed f.ForRest = refl
own_passed f.IfRest = refl
own_passed f.ElseRest = refl
own_passed f.ElseBody = refl
own_passed f.FirstCase = refl
own_passed f.FirstBody = refl
own_passed f.FirstElseBody = refl
own_passed f.Branches = refl
own_passed f.Choices = refl
own_passed f.Labels = refl
own_passed f.OptionalEnds = refl
own_passed f.Target = refl
own_passed f.Given = refl
own_passed f.Catches = refl
own_passed f.Finally = refl
own_passed f.Tails = refl
own_passed f.Store = refl
own_passed f.Expr = refl
own_passed f.Or = refl
own_passed f.OrTail = refl
own_passed f.And = refl
own_passed f.AndTail = refl
own_passed f.Equal = refl
own_passed f.EqualTail = refl
own_passed f.Comparison = refl
own_passed f.CompareTail = refl
own_passed f.IsForm = refl
own_passed f.IsTail = refl
own_passed f.Infix = refl
own_passed f.InfixTail = refl
own_passed f.Sum = refl
own_passed f.SumTail = refl
own_passed f.Product = refl
own_passed f.ProductTail = refl
own_passed f.Cast = refl
own_passed f.CastTail = refl
own_passed f.Prefixed = refl
own_passed f.Operand = refl
own_passed f.Plain = refl
own_passed f.Named = refl
own_passed f.Generic = refl
own_passed f.Suffixes = refl
own_passed f.AfterDot = refl
own_passed f.Dotted = refl
own_passed f.DottedGeneric = refl
own_passed f.Faced = refl
own_passed f.Lambda = refl
own_passed f.Names = refl
own_passed f.MoreNames = refl
own_passed f.Args = refl
own_passed f.MoreExprs = refl
own_passed f.Type = refl
own_passed f.TypePath = refl
own_passed f.PathMore = refl
own_passed f.PathNext = refl
own_passed f.Nullable = refl
own_passed f.TypeArguments = refl
own_passed f.MoreTypes = refl

heavy_passed : (q : Way) → nat_le (1 + weight_of certificate (written q)) (weight (owner q) + 64 * terms (written q)) ≡ true
unfolding written
heavy_passed w.FilePackage = refl
heavy_passed w.FileBare = refl
heavy_passed w.AfterLineMore = refl
heavy_passed w.AfterLineEnd = refl
heavy_passed w.LinesImport = refl
heavy_passed w.LinesClass = refl
heavy_passed w.LinesEnd = refl
heavy_passed w.QualifiedName = refl
heavy_passed w.QualifiedDot = refl
heavy_passed w.QualifiedEnd = refl
heavy_passed w.ClassWhole = refl
heavy_passed w.ClassPlain = refl
heavy_passed w.ClassFun = refl
heavy_passed w.ModifiersWord = refl
heavy_passed w.ModifiersAt = refl
heavy_passed w.ModifiersEnd = refl
heavy_passed w.TypeParamsSome = refl
heavy_passed w.TypeParamsNone = refl
heavy_passed w.TypeParamOne = refl
heavy_passed w.TypeParamsMore = refl
heavy_passed w.TypeParamsEnd = refl
heavy_passed w.SupersSome = refl
heavy_passed w.SupersNone = refl
heavy_passed w.SuperOne = refl
heavy_passed w.SuperCalled = refl
heavy_passed w.SuperPlain = refl
heavy_passed w.SupersMore = refl
heavy_passed w.SupersEnd = refl
heavy_passed w.TypedSome = refl
heavy_passed w.TypedNone = refl
heavy_passed w.MembersSome = refl
heavy_passed w.MembersEnds = refl
heavy_passed w.MembersNone = refl
heavy_passed w.MembersMore = refl
heavy_passed w.MembersEnd = refl
heavy_passed w.NextMemberSome = refl
heavy_passed w.NextMemberNone = refl
heavy_passed w.MemberInit = refl
heavy_passed w.MemberCompanion = refl
heavy_passed w.MemberModified = refl
heavy_passed w.ModifiedProperty = refl
heavy_passed w.ModifiedFunction = refl
heavy_passed w.ModifiedConstructor = refl
heavy_passed w.DeclaredName = refl
heavy_passed w.ValueSome = refl
heavy_passed w.ValueNone = refl
heavy_passed w.SetterSome = refl
heavy_passed w.SetterNone = refl
heavy_passed w.ParamsWhole = refl
heavy_passed w.ParamsSome = refl
heavy_passed w.ParamsNone = refl
heavy_passed w.ParamOne = refl
heavy_passed w.ParamsMore = refl
heavy_passed w.ParamsEnd = refl
heavy_passed w.BodySome = refl
heavy_passed w.BodyNone = refl
heavy_passed w.DelegationSome = refl
heavy_passed w.DelegationNone = refl
heavy_passed w.BlockWhole = refl
heavy_passed w.StatementsSome = refl
heavy_passed w.StatementsEnds = refl
heavy_passed w.StatementsNone = refl
heavy_passed w.StatementsMore = refl
heavy_passed w.StatementsEnd = refl
heavy_passed w.NextStatementSome = refl
heavy_passed w.NextStatementNone = refl
heavy_passed w.StatementLocal = refl
heavy_passed w.StatementLabelled = refl
heavy_passed w.StatementLoop = refl
heavy_passed w.StatementIf = refl
heavy_passed w.StatementWhen = refl
heavy_passed w.StatementBreak = refl
heavy_passed w.StatementContinue = refl
heavy_passed w.StatementReturn = refl
heavy_passed w.StatementThrow = refl
heavy_passed w.StatementTry = refl
heavy_passed w.StatementSynchronized = refl
heavy_passed w.StatementPrefix = refl
heavy_passed w.StatementPlain = refl
heavy_passed w.LocalSome = refl
heavy_passed w.LocalNone = refl
heavy_passed w.LoopWhile = refl
heavy_passed w.LoopDo = refl
heavy_passed w.LoopFor = refl
heavy_passed w.ForRange = refl
heavy_passed w.ForEach = refl
heavy_passed w.IfBlock = refl
heavy_passed w.IfValue = refl
heavy_passed w.ElseSome = refl
heavy_passed w.ElseNone = refl
heavy_passed w.ElseBlock = refl
heavy_passed w.ElseIf = refl
heavy_passed w.FirstElse = refl
heavy_passed w.FirstNext = refl
heavy_passed w.FirstBranch = refl
heavy_passed w.FirstChoice = refl
heavy_passed w.FirstElseBranch = refl
heavy_passed w.FirstElseChoice = refl
heavy_passed w.BranchElse = refl
heavy_passed w.BranchNext = refl
heavy_passed w.ChoiceElse = refl
heavy_passed w.ChoiceNext = refl
heavy_passed w.LabelsSome = refl
heavy_passed w.OptionalEndsSome = refl
heavy_passed w.OptionalEndsNone = refl
heavy_passed w.TargetSome = refl
heavy_passed w.TargetNone = refl
heavy_passed w.GivenSome = refl
heavy_passed w.GivenNone = refl
heavy_passed w.CatchesSome = refl
heavy_passed w.CatchesEnd = refl
heavy_passed w.FinallySome = refl
heavy_passed w.FinallyNone = refl
heavy_passed w.TailsAll = refl
heavy_passed w.StoreSome = refl
heavy_passed w.StoreNone = refl
heavy_passed w.ExprIf = refl
heavy_passed w.ExprOr = refl
heavy_passed w.OrWhole = refl
heavy_passed w.OrMore = refl
heavy_passed w.OrEnd = refl
heavy_passed w.AndWhole = refl
heavy_passed w.AndMore = refl
heavy_passed w.AndEnd = refl
heavy_passed w.EqualWhole = refl
heavy_passed w.EqualMore = refl
heavy_passed w.EqualEnd = refl
heavy_passed w.CompareWhole = refl
heavy_passed w.CompareMore = refl
heavy_passed w.CompareEnd = refl
heavy_passed w.IsWhole = refl
heavy_passed w.IsMore = refl
heavy_passed w.IsEnd = refl
heavy_passed w.InfixWhole = refl
heavy_passed w.InfixMore = refl
heavy_passed w.InfixEnd = refl
heavy_passed w.SumWhole = refl
heavy_passed w.SumMore = refl
heavy_passed w.SumEnd = refl
heavy_passed w.ProductWhole = refl
heavy_passed w.ProductMore = refl
heavy_passed w.ProductEnd = refl
heavy_passed w.CastWhole = refl
heavy_passed w.CastMore = refl
heavy_passed w.CastEnd = refl
heavy_passed w.PrefixedMark = refl
heavy_passed w.PrefixedOperand = refl
heavy_passed w.OperandWhen = refl
heavy_passed w.OperandPlain = refl
heavy_passed w.PlainLiteral = refl
heavy_passed w.PlainThis = refl
heavy_passed w.PlainSuper = refl
heavy_passed w.PlainParen = refl
heavy_passed w.PlainRun = refl
heavy_passed w.PlainNamed = refl
heavy_passed w.PlainGeneric = refl
heavy_passed w.NamedCall = refl
heavy_passed w.NamedOnly = refl
heavy_passed w.GenericCall = refl
heavy_passed w.GenericLambda = refl
heavy_passed w.SuffixDot = refl
heavy_passed w.SuffixIndex = refl
heavy_passed w.SuffixMark = refl
heavy_passed w.SuffixNullable = refl
heavy_passed w.SuffixLambda = refl
heavy_passed w.SuffixNamedLambda = refl
heavy_passed w.SuffixClass = refl
heavy_passed w.SuffixesEnd = refl
heavy_passed w.DotNamed = refl
heavy_passed w.DotGeneric = refl
heavy_passed w.DottedCall = refl
heavy_passed w.DottedOnly = refl
heavy_passed w.DottedGenericCall = refl
heavy_passed w.DottedGenericLambda = refl
heavy_passed w.FacedNullable = refl
heavy_passed w.FacedPlain = refl
heavy_passed w.LambdaPlain = refl
heavy_passed w.LambdaNamed = refl
heavy_passed w.NamesSome = refl
heavy_passed w.NamesNone = refl
heavy_passed w.NamesMore = refl
heavy_passed w.NamesEnd = refl
heavy_passed w.ArgsSome = refl
heavy_passed w.ArgsNone = refl
heavy_passed w.ExprsMore = refl
heavy_passed w.ExprsEnd = refl
heavy_passed w.TypeWhole = refl
heavy_passed w.PathPlain = refl
heavy_passed w.PathApplied = refl
heavy_passed w.PathDot = refl
heavy_passed w.PathEnd = refl
heavy_passed w.NextPlain = refl
heavy_passed w.NextApplied = refl
heavy_passed w.NullableSome = refl
heavy_passed w.NullableNone = refl
heavy_passed w.TypeArgumentsWhole = refl
heavy_passed w.TypesMore = refl
heavy_passed w.TypesEnd = refl

-- ---- what it says

implied : (a b : Bool) → implies a b ≡ true → a ≡ true → b ≡ true
implied true b h g = h
implied false b h g = absurd (cc g)

if_all : (a b c d : Bool) → (if a then (if b then (if c then d else false) else false) else false) ≡ true → (a ≡ true) × (b ≡ true) × (c ≡ true) × (d ≡ true)
if_all true true true d h = (refl, refl, refl, h)
if_all true true false d h = absurd (cc h)
if_all true false c d h = absurd (cc h)
if_all false b c d h = absurd (cc h)

at_all : (q : Way) (c : Kind) → (choice_test q c ≡ true) × (closed_test false q c ≡ true) × (closed_test true q c ≡ true) × (follow_test q c ≡ true)
at_all q c = if_all (choice_test q c) (closed_test false q c) (closed_test true q c) (follow_test q c) (everywhere (test q) (passed q) c)

pub chosen : (q : Way) (c : Kind) → first certificate (written q) (follows (owner q) c) c ≡ true → choose (owner q) c ≡ q
chosen q c h = way_same (choose (owner q) c) q (implied (first certificate (written q) (follows (owner q) c) c) _ (at_all q c).0 h)

pub closed : (q : Way) (after : Bool) (c : Kind) → first certificate (written q) after c ≡ true → form_first certificate (owner q) after c ≡ true
closed q false c h = implied (first certificate (written q) false c) _ (at_all q c).1 h
closed q true c h = implied (first certificate (written q) true c) _ (at_all q c).2 h

pub followed : (q : Way) (c : Kind) → may_follow certificate (follows (owner q) c) (written q) c ≡ true
followed q c = (at_all q c).3

pub owned : (m : Form) (c : Kind) → owner (choose m c) ≡ m
owned m c = form_same (owner (choose m c)) m (everywhere (λ c. nat_eq (form_code (owner (choose m c))) (form_code m)) (own_passed m) c)

pub heavy : (q : Way) → 1 + weight_of certificate (written q) ≤ weight (owner q) + 64 * terms (written q)
heavy q = number (1 + weight_of certificate (written q)) (weight (owner q) + 64 * terms (written q)) (heavy_passed q)
  where
    number : (a b : ℕ) → nat_le a b ≡ true → a ≤ b
    number a b h = grind (arith, nat_tests)
