use Rattle.std.proofs.Common.{rules, ◌≡◌, ◌∷◌, [], ◌∙◌, List, length, ap, sym}
use Rattle.sh_lexer.specs.declared.token.Token.{Token}
use Rattle.sh_spell.specs.Layout.{onto, source_of}
use Rattle.sh_spell.proofs.Guards.{onto-append, all-onto, if_ok, spells-text}
use Rattle.sh_spell.proofs.tokens.spell_tokens.Goals as goal

pub tokens-preserved : goal.tokens-preserved
tokens-preserved c =
    ap (onto c.in-Some.rest.now) c.in_ok-put.ensures
    ∙ (sym (onto-append c.in-Some.rest.now (c.in-Some.last.now ∷ []) c.tokens.sheet)
    ∙ (ap (λ (z : List Token). onto z c.tokens.sheet) (sym c.in-Some.ensures.cases.0) ∙ c.tokens.invariant))

pub returns-clause-spells : goal.returns-clause-spells
returns-clause-spells c =
    let e : length c.tokens.left.now ≡ 0 = search rules in
    let s = all-onto c.tokens.left.now c.tokens.sheet (source_of c.args.tokens.now) e c.tokens.invariant in
    if_ok _ _ _ c.into_text.ensures (λ text h. spells-text c.args.tokens.now c.tokens.sheet text s h)
