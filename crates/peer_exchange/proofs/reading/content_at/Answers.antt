use Rattle.std.proofs.Common.{◌≡◌, ℕ, List, [], ◌∷◌, ◌++◌, Some, sym, ap, ◌∙◌, subst, append_assoc, rules}
use Rattle.pcrf_values.proofs.Plain.{came_from, some_same}
use Rattle.pcrf_model.specs.Letters.{LetterValue}
use Rattle.fact_codec.specs.Spelling.{short_bytes, word_bytes}
use Rattle.peer_exchange.specs.Form.{is_addressed, if_addressed}
use Rattle.peer_exchange.specs.Spelling.{body_bytes, letter_bytes_in}
use Rattle.peer_exchange.specs.Values.{body_value, letter_value}
use Rattle.peer_exchange.proofs.reading.content_at.Goals as goal

pub returns-clause-spelled : goal.returns-clause-spelled
unfolding letter_bytes_in
returns-clause-spelled c =
    let site = c.in_ok-site.site in
    let epoch = short_bytes c.in_ok-epoch.epoch in
    let said = body_bytes (body_value c.in_ok-said.said) in
    let rest = c.in_ok-said.rest.now in
    let front = word_bytes c.args.edition in
    let o : LetterValue = letter_value c.args.edition c.in_ok-site.site c.in_ok-epoch.epoch c.in_ok-said.said in
    let made : if_addressed o ≡ Some c.in-Some.letter = search rules in
    let k = came_from (is_addressed o) (Some o) c.in-Some.letter made in
    let parts : front ++ c.args.bytes.now ≡ (((front ++ site ∷ []) ++ epoch) ++ said) ++ rest =
    ap (λ (x : List ℕ). front ++ x) (c.in_ok-site.ensures.spelled ∙ ap (λ (x : List ℕ). site ∷ x) (c.in_ok-epoch.ensures.spelled ∙ ap (λ (x : List ℕ). epoch ++ x) c.in_ok-said.ensures.spelled))
    ∙ sym (append_assoc ((front ++ site ∷ []) ++ epoch) said rest ∙ append_assoc (front ++ site ∷ []) epoch (said ++ rest) ∙ append_assoc front (site ∷ []) (epoch ++ (said ++ rest))) in
    let v = c.args.version in
    let spelled : v ∷ (front ++ c.args.bytes.now) ≡ letter_bytes_in v o ++ rest = ap (λ (x : List ℕ). v ∷ x) parts in
    subst (λ (x : LetterValue). v ∷ (front ++ c.args.bytes.now) ≡ letter_bytes_in v x ++ rest) (some_same o c.in-Some.letter k.1) spelled
