-- Identifiers, keywords, and names in backticks (Kotlin, "Identifiers").
use Rattle.std.specs.Prelude.{ℕ, Bool, not, ◌||◌, ◌==◌, List, [], ◌++◌, Option, Some, None, encode_utf8, if◌then◌else◌}
use Rattle.unicode_ident.specs.Ident.{is_xid_start, is_xid_continue}
use Rattle.kotlin_tree.specs.declared.places.Position.{Position}
use Rattle.kotlin_tree.specs.declared.tokens.TokenKind.TheVariants as kinds
use Rattle.kotlin_characters.specs.Letters.{Letters, letter, stop}
use Rattle.kotlin_characters.specs.Scans.{head, tail, drop_while}
use Rattle.kotlin_keywords.specs.declared.words.WordKind.{WordKind}
use Rattle.kotlin_keywords.specs.declared.words.WordKind.TheVariants.{Keyword, Word}
use Rattle.kotlin_keywords.specs.Words.{word_kind}
use Rattle.kotlin_lexer.specs.declared.found.Code.TheVariants as codes
use Rattle.kotlin_lexer.specs.Found.{Cut, fault, token, unformed}

-- A word begins with `_` or a character of the Unicode property XID_Start (own rule).
abbrev pub is_start : ℕ → Bool
is_start c = (c == 95) || is_xid_start c

-- It goes on with characters of the Unicode property XID_Continue, `_` among them (own rule).
abbrev pub is_continue : ℕ → Bool
is_continue c = is_xid_continue c

-- the bytes of the rest of a word at the front of a text
abbrev pub name_of : Letters → List ℕ
name_of (letter c p rest) = if is_continue c then encode_utf8 c ++ name_of rest else []
name_of (stop e q) = []

-- another character than `_` stood in the word, or stands in its rest at the front of a text
abbrev pub is_named : Bool → Letters → Bool
is_named so_far (letter c p rest) = if is_continue c then is_named (so_far || not (c == 95)) rest else so_far
is_named so_far (stop e q) = so_far

-- the text behind the rest of a word
abbrev pub word_rest : Letters → Letters
word_rest t = drop_while is_continue t

-- a word that is only a name: one that consists of `_` alone is no token (own rule)
abbrev pub plain_name : Bool → Position → List ℕ → Letters → Cut
plain_name some p name t = if some then token (kinds.Name name) p t else fault codes.Character p t

-- a word that means something of its own
abbrev pub named : WordKind → Position → Letters → Cut
named (Keyword k) p t = token (kinds.Keyword k) p t
named (Word w) p t = token (kinds.Word w) p t

-- a word, by what it is
abbrev pub word_token : Option WordKind → Bool → Position → List ℕ → Letters → Cut
word_token (Some kind) some p name t = named kind p t
word_token None some p name t = plain_name some p name t

-- A longest word.
unfoldable pub word_piece : Position → ℕ → Letters → Cut
word_piece p c rest =
    word_token (word_kind (encode_utf8 c ++ name_of rest)) (is_named (not (c == 95)) rest) p (encode_utf8 c ++ name_of rest) (word_rest rest)

-- a name in backticks, behind its characters
abbrev pub quoted_name : Position → List ℕ → Letters → Cut
quoted_name p name t = if head t == 96 then token (kinds.Name name) p (tail t) else unformed codes.Character p t

-- An identifier in backticks is a name, also where it is a keyword or consists of `_` alone (own rule).
unfoldable pub quoted_piece : Position → Letters → Cut
quoted_piece p (stop e q) = unformed codes.Character p (stop e q)
quoted_piece p (letter c q rest) =
    if is_start c then quoted_name p (encode_utf8 c ++ name_of rest) (word_rest rest) else fault codes.Character p (letter c q rest)
