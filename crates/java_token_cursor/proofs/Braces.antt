-- What stands behind values in braces, a piece at a time.
use Rattle.std.proofs.Common.{◌≡◌, [], ◌∷◌, Option, Some, None, refl}
use Rattle.java_tree.specs.declared.tokens.Mark.TheVariants as m
use Rattle.java_tree.specs.declared.tokens.Position.{Position}
use Rattle.java_tree.specs.Seen.{Token, Tokens}
use Rattle.java_expr_grammar.specs.Reading.{Read, ◌>>=◌, maybe, comma, inner_comma, braces_end}
use Rattle.java_token_cursor.specs.Heads.{close_curly, unclosed}

abbrev pub trailed : Position × Tokens → Read (Option Position × Position)
trailed c = close_curly c.1 >>= λ e. Some ((Some c.0, e.0), e.1)

abbrev pub bare : Position × Tokens → Read (Option Position × Position)
bare e = Some ((None, e.0), e.1)

inner_after : (at : Position) (ts : Tokens) → inner_comma (Token.Sign m.Comma at ∷ ts) ≡ unclosed at ts
inner_after at [] = refl
inner_after at (Token.Sign m.CloseCurly rc ∷ ts) = refl
inner_after at (_ ∷ ts) = refl

pub inner_is : (ts : Tokens) → inner_comma ts ≡ (comma ts >>= λ c. unclosed c.0 c.1)
inner_is [] = refl
inner_is (Token.Sign m.Comma at ∷ ts) = inner_after at ts
inner_is (_ ∷ ts) = refl

end_after : (at : Position) (ts : Tokens) → braces_end (Token.Sign m.Comma at ∷ ts) ≡ trailed (at, ts)
end_after at [] = refl
end_after at (Token.Sign m.CloseCurly rc ∷ ts) = refl
end_after at (_ ∷ ts) = refl

pub end_is : (ts : Tokens) → braces_end ts ≡ maybe (close_curly ts) (comma ts >>= trailed) bare
end_is [] = refl
end_is (Token.Sign m.CloseCurly rc ∷ ts) = refl
end_is (Token.Sign m.Comma at ∷ ts) = end_after at ts
end_is (_ ∷ ts) = refl

pub ruleset braces = (inner_is, end_is)
