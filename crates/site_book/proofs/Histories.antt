-- Histories that grow.
use Rattle.std.proofs.Common.{◌≡◌, ℕ, List, [], ◌∷◌, ◌++◌, map, refl, sym, subst}
use Rattle.std.proofs.lemmas.List.{map-append}
use Rattle.pcrf_values.specs.Limits.{delta_limit}
use Rattle.pcrf_model.specs.Replies.{ReplyValue}
use Rattle.pcrf_model.specs.Steps.{SiteState, SiteEvent, Replays, kept_state_after}
use Rattle.pcrf_model.proofs.HistoryLaws.{compose}
use Rattle.site_machine.specs.Sites.{SiteMayReply, SiteValue, after_event}
use Rattle.site_book.specs.Books.{EntryValue, called, entry_of, LeadsTo}

-- one entry more
pub leads_more : (opening : SiteState) (s : SiteValue) (h : List EntryValue) (k : ℕ) (e : SiteEvent) (r : ReplyValue) → LeadsTo opening h s → SiteMayReply s e r → LeadsTo opening (h ++ entry_of k e r ∷ []) (after_event s e r)
leads_more opening s h k e r leads may =
    let after : SiteState = kept_state_after delta_limit s.tables s.number s.state e r in
    let Q : List (SiteEvent × ReplyValue) → Type 0 = λ xs. Replays delta_limit s.tables s.number opening xs after in
    subst Q (sym (map-append called h (entry_of k e r ∷ [])))
    (compose delta_limit s.tables s.number opening s.state after (map called h) ((e, r) ∷ []) leads (may, refl))
