-- The AVPs that are recognized (RFC 6733, 4.1): those of the standards whose AVPs requests of the base protocol, of Gx and of Rx may have,
-- whether this node reads them or passes them over. A range is what its standard was given, so that AVPs that a later version of it adds
-- are recognized too.
use Rattle.std.specs.Prelude.{ℕ, Bool, ◌&&◌, ◌==◌, nat_le, List, [], ◌∷◌, ◌++◌, Option, Some, None}
use Rattle.std.specs.List.{list_any}
use Rattle.std.specs.Option.{option_eq}
use Rattle.dia_base.specs.Avps.{tgpp_vendor}
use Rattle.dia_codec.specs.declared.message.AvpKey.{AvpKey}
use Rattle.site_core.specs.declared.failed_avps.recognized.CodeRange.{CodeRange}

-- the codes from the first to the last that a vendor gave out, or the IETF
abbrev pub codes_of : Option ℕ → ℕ → ℕ → CodeRange
codes_of vendor first last = record { vendor = vendor; first = first; last = last }

abbrev pub ietf : ℕ → ℕ → CodeRange
ietf first last = codes_of None first last

abbrev pub tgpp : ℕ → ℕ → CodeRange
tgpp first last = codes_of (Some tgpp_vendor) first last

abbrev pub etsi : ℕ → ℕ → CodeRange
etsi first last = codes_of (Some 13019) first last

abbrev pub tgpp2 : ℕ → ℕ → CodeRange
tgpp2 first last = codes_of (Some 5535) first last

-- Of the IETF: the attributes of RADIUS (RFC 6733, 4.5); the base protocol (RFC 6733, 4.5) and DRMP (RFC 7944); access servers (RFC 7155,
-- 4), in two ranges; credit control (RFC 8506, 8); accounting (RFC 6733, 9.8); mobility and the quality of service (RFC 5447, RFC 5778, RFC
-- 5624, RFC 5779, RFC 6611); filters (RFC 5777); overload (RFC 7683); overload of agents and load (RFC 8581, RFC 8583), and what was added to
-- credit control (RFC 8506, 8).
abbrev pub ietf_codes : List CodeRange
ietf_codes =
    ietf 1 255 ∷ ietf 257 301 ∷ ietf 363 366 ∷ ietf 400 408 ∷ ietf 411 461 ∷ ietf 480 485 ∷ ietf 486 507 ∷ ietf 508 578 ∷ ietf 621 627
    ∷ ietf 648 669 ∷ []

-- Of 3GPP: Gi and SGi (TS 29.061, 16.4.7); Rx (TS 29.214, 5.3); Cx (TS 29.229, 6.3), with Supported-Features; Sh (TS 29.329, 6.3);
-- charging (TS 32.299, 7.2); Gmb (TS 29.061, 17.7), with RAI; Gx (TS 29.212, 5.3); charging; S6a (TS 29.272, 7.3); access that isn't 3GPP's
-- (TS 29.273); S6a; charging; S9 (TS 29.215, 5.3); charging; Gx; Sy (TS 29.219, 5.3); Nt (TS 29.154, 5.3), with Reference-Id.
abbrev pub tgpp_codes : List CodeRange
tgpp_codes =
    tgpp 1 255 ∷ tgpp 500 599 ∷ tgpp 600 699 ∷ tgpp 700 799 ∷ tgpp 800 899 ∷ tgpp 900 999 ∷ tgpp 1000 1099 ∷ tgpp 1200 1299
    ∷ tgpp 1400 1499 ∷ tgpp 1500 1599 ∷ tgpp 1600 1699 ∷ tgpp 2000 2199 ∷ tgpp 2200 2299 ∷ tgpp 2300 2399 ∷ tgpp 2800 2899
    ∷ tgpp 2900 2999 ∷ tgpp 4200 4299 ∷ []

-- Of ETSI: where a user is attached (TS 183 066), with Logical-Access-Id and Physical-Access-Id, and Gq' (TS 183 017), with
-- Reservation-Priority; of 3GPP2: 3GPP2-BSID (X.S0057). Gx and Rx take them over (TS 29.212, 5.4; TS 29.214, 5.4).
abbrev pub other_codes : List CodeRange
other_codes = etsi 300 399 ∷ etsi 450 459 ∷ tgpp2 9010 9010 ∷ []

abbrev pub recognized_codes : List CodeRange
recognized_codes = ietf_codes ++ tgpp_codes ++ other_codes

-- an AVP is one of a range
abbrev pub is_within : AvpKey → CodeRange → Bool
is_within key range =
    option_eq (λ a b. a == b) key.vendor range.vendor && nat_le range.first key.code && nat_le key.code range.last

unfoldable pub is_recognized : AvpKey → Bool
is_recognized key = list_any (is_within key) recognized_codes
