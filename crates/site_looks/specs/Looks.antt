-- What look-ups at a site find.
use Rattle.std.specs.Prelude.{◌≡◌, ℕ, ◌-◌, ◌*◌, ◌^◌, min, List, [], ◌++◌, take, drop, Option, Some, None, IfSome, option_map}
use Rattle.bind_index.specs.Listings.{sessions_of}
use Rattle.pcrf_model.specs.Bindings.{bind}
use Rattle.pcrf_model.specs.Holdings.{facts_on}
use Rattle.pcrf_model.specs.Rules.{rules}
use Rattle.pcrf_model.specs.Sessions.{gx, af}
use Rattle.pcrf_model.specs.Views.{View, view}
use Rattle.site_machine.specs.Sites.{SiteValue}
use Rattle.site_looks.specs.declared.found.CallFound.{CallFound}
use Rattle.site_looks.specs.declared.found.GatewayFound.{GatewayFound}
use Rattle.site_looks.specs.declared.shown.TheConstants as constants

-- what is shown of the sessions that a site knows
abbrev pub shown : SiteValue → View
shown s = view s.state.holding.facts

-- just what the site knows of that gateway's session was found, with the rules that it has; nothing where it knows nothing
abbrev pub IsGatewayFound : SiteValue → List ℕ → Option GatewayFound → Type 0
IsGatewayFound s id None = facts_on s.state.holding.facts (gx id) ≡ []
IsGatewayFound s id (Some found) =
    (found.known ≡ facts_on s.state.holding.facts (gx id)) × (found.rules.items ≡ rules s.tables (shown s) (gx id))

-- just what the site knows of that application function's session was found, and to which gateway's session it is bound, unless the site has no
-- index of its sessions; nothing where it knows nothing
abbrev pub IsCallFound : SiteValue → List ℕ → Option CallFound → Type 0
IsCallFound s id None = facts_on s.state.holding.facts (af id) ≡ []
IsCallFound s id (Some found) =
    (found.known ≡ facts_on s.state.holding.facts (af id))
    × IfSome found.binding (λ bound. option_map gx bound ≡ bind (shown s) (af id))

-- the live sessions of gateways that have a subscriber of that name: as a telephone number, an international mobile subscriber identity, a SIP URI, a
-- network access identifier, and an identity of the operator's own (RFC 8506, 8.47)
abbrev pub sessions_named : View → List ℕ → List (List ℕ)
sessions_named v name =
    (((sessions_of v (0, name) ++ sessions_of v (1, name)) ++ sessions_of v (2, name)) ++ sessions_of v (3, name))
    ++ sessions_of v (4, name)

-- ---- pages of lists

-- how many entries of a list are shown on a page at most
abbrev pub page_entries : ℕ
page_entries = constants.PAGE

-- how many entries stand on the pages before that one, of which the first is 1: no list is longer than the greatest number of it
abbrev pub before_page : ℕ → ℕ
before_page page = min ((page - 1) * page_entries) (2 ^ 64 - 1)

-- the entries of a list that stand on a page
abbrev pub on_page : {A : Type 0} → ℕ → List A → List A
on_page page all = take page_entries (drop (before_page page) all)
