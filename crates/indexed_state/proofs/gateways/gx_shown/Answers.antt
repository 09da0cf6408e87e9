use Rattle.std.proofs.Common.{List, ◌++◌, sym, ap, ◌∙◌}
use Rattle.std.proofs.lemmas.List.Elements.{filter_map-append}
use Rattle.pcrf_values.specs.Held.{entry_shown}
use Rattle.pcrf_model.specs.SiteOverviews.{FieldShown}
use Rattle.indexed_state.specs.Fields.{field_at, shown_at, user_places, client_places, prefix_places}
use Rattle.indexed_state.proofs.GxFields.{gx_fields}
use Rattle.indexed_state.proofs.gateways.gx_shown.Goals as goal

pub returns : goal.returns
returns c =
    let shows = entry_shown c.args.known.now in
    let user = c.in_ok-user.ensures.user in
    let client = c.in_ok-user.ensures.client in
    let prefix = c.in_ok-user.ensures.prefix in
    let fields =
    (λ j. user j ++ client j ++ prefix j)
    ∙ ap (λ (fs : List FieldShown). fs ++ shown_at shows prefix_places) (sym (filter_map-append (field_at shows) user_places client_places))
    ∙ sym (filter_map-append (field_at shows) (user_places ++ client_places) prefix_places)
    ∙ sym (gx_fields c.args.known.now c.note_places.ensures.components c.note_places.ensures.flows) in
    λ i. record {
      fields = fields i;
      home = c.home_of-home.ensures i;
      rules = c.in_ok-rules.ensures.derived i;
      told = c.in_ok-told.ensures i;
    }
