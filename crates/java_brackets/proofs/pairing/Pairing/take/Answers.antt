use Rattle.std.proofs.Common.{◌≡◌, ◌∙◌, reverse, rules}
use Rattle.java_tree.specs.Seen.{seen}
use Rattle.java_brackets.specs.Brackets.{bracket_at, closed_by}
use Rattle.java_brackets.proofs.Scans.{bracket_read, pairing_partner, pairing_more}
use Rattle.java_brackets.proofs.pairing.Pairing.take.Goals as goal

pub note-requires : goal.note-requires
note-requires c =
    let is : bracket_at (seen c.args.tokens.now) c.args.number ≡ c.bracket_of-bracket.result =
    bracket_read c.args.tokens.now c.args.number c.index-tokens-number.result c.requires.within c.index-tokens-number.is ∙ (search rules) in
    let closed : c.closed_by-partner.result ≡ closed_by (reverse c.args.self.now.stack.items) c.bracket_of-bracket.result = search rules in
    pairing_partner (seen c.args.tokens.now) c.args.number c.args.self.now c.bracket_of-bracket.result c.closed_by-partner.result c.requires.pairing is closed

pub returns : goal.returns
returns c =
    let is : bracket_at (seen c.args.tokens.now) c.args.number ≡ c.bracket_of-bracket.result =
    bracket_read c.args.tokens.now c.args.number c.index-tokens-number.result c.requires.within c.index-tokens-number.is ∙ (search rules) in
    let closed : c.closed_by-partner.result ≡ closed_by (reverse c.args.self.now.stack.items) c.bracket_of-bracket.result = search rules in
    pairing_more (seen c.args.tokens.now) c.args.number c.args.self.now _ c.bracket_of-bracket.result c.closed_by-partner.result
    c.requires.pairing is closed c.in_ok-note.ensures c.in_ok-pass.ensures
