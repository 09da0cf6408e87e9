-- The keys of the operator tables as they stand in a document.
use Rattle.std.specs.Prelude.{ℕ, List, codes}
use Rattle.op_tables.specs.declared.place.TableKey.{TableKey}
use Rattle.op_tables.specs.declared.place.TableKey.TheVariants.{Edition, RtcpBps, Signalling, Media, Apn, MediaType, Name, Default, Rule, Qci, Priority, Capability, Vulnerability, MaxUl, MaxDl, Precedence, AmbrUl, AmbrDl, Status, Filters}

abbrev pub key_text : TableKey → List ℕ
key_text Edition = codes "edition"
key_text RtcpBps = codes "rtcp_bps"
key_text Signalling = codes "signalling"
key_text Media = codes "media"
key_text Apn = codes "apn"
key_text MediaType = codes "type"
key_text Name = codes "name"
key_text Default = codes "default"
key_text Rule = codes "rule"
key_text Qci = codes "qci"
key_text Priority = codes "priority"
key_text Capability = codes "capability"
key_text Vulnerability = codes "vulnerability"
key_text MaxUl = codes "max_ul"
key_text MaxDl = codes "max_dl"
key_text Precedence = codes "precedence"
key_text AmbrUl = codes "ambr_ul"
key_text AmbrDl = codes "ambr_dl"
key_text Status = codes "status"
key_text Filters = codes "filters"
