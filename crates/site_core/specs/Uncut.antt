-- AVPs whose lengths are wrong (RFC 6733, 7.1.5 and 7.5).
use Rattle.std.specs.Prelude.{ℕ, zero, suc, List, length, find, replicate, Option, Some, None, option_map}
use Rattle.std.specs.Option.{option_map_or}
use Rattle.dia_codec.specs.declared.message.AvpKey.{AvpKey}
use Rattle.dia_codec.specs.Fields.{AvpValue, key_of}
use Rattle.dia_codec.specs.Reading.{cut_at}
use Rattle.dia_codec.specs.Spelling.{avp_value}
use Rattle.dia_base.specs.Rows.{same_key}
use Rattle.site_core.specs.declared.failed_avps.grammar.Grammar.{Grammar}
use Rattle.site_core.specs.declared.failed_avps.grammar.GrammarRow.{GrammarRow}
use Rattle.site_core.specs.Faults.{least_length, with_value}
use Rattle.site_core.specs.Grammars.{rows_of}

-- what follows the first AVP and its padding; none where its length is below its header's or past the end
abbrev pub after_first : List ℕ → Option (List ℕ)
after_first bytes = option_map (λ (x : List ℕ × List ℕ). x.1) (cut_at bytes)

-- what is left where an AVP was cut off, or was not
abbrev pub rest_after : (List ℕ → List ℕ) → List ℕ → Option (List ℕ) → List ℕ
rest_after again bytes None = bytes
rest_after again bytes (Some rest) = again rest

-- what is left when no AVP can be cut off any more, or so many were
abbrev pub uncut_within : ℕ → List ℕ → List ℕ
uncut_within zero bytes = bytes
uncut_within (suc n) bytes = rest_after (uncut_within n) bytes (after_first bytes)

-- each AVP has a byte at least
abbrev pub uncut : List ℕ → List ℕ
uncut bytes = uncut_within (length bytes) bytes

-- the least length of the values at a key
abbrev pub least_at : Grammar → AvpKey → ℕ
least_at grammar key = option_map_or (λ (row : GrammarRow). least_length row.kind) (find (λ (row : GrammarRow). same_key row.key key) (rows_of grammar)) 0

abbrev pub least_by : Option Grammar → AvpKey → ℕ
least_by None key = 0
least_by (Some grammar) key = least_at grammar key

-- the header of the AVP that begins with these bytes, with zeros for what there isn't, and zeros of its type's least length for its value
abbrev pub headed : Option Grammar → List ℕ → AvpValue
headed grammar bytes = with_value (avp_value bytes) (replicate (least_by grammar (key_of (avp_value bytes))) 0)
