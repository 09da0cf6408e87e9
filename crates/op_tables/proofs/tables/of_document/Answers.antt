use Rattle.std.proofs.Common.{◌≡◌, None, refl}
use Rattle.toml.specs.View.{table_view}
use Rattle.op_tables.specs.Places.{top_keys}
use Rattle.op_tables.specs.Judgement.{keys_fault}
use Rattle.op_tables.proofs.Apart.{apns_apart}
use Rattle.op_tables.proofs.tables.of_document.Goals as goal

pub invariant_of-result : goal.invariant_of-result
unfolding keys_fault
invariant_of-result c =
    let good : keys_fault top_keys (table_view c.args.document.now) ≡ None =
    rw (c.in_ok-edition.ensures.judged, c.in_ok-rtcp_bps.ensures.judged, c.in_ok-signalling.ensures.judged, c.in_ok-media.ensures.judged, c.in_ok-apns.ensures.judged) refl in
    apns_apart (table_view c.args.document.now) c.in_ok-edition.edition c.in_ok-rtcp_bps.rtcp_bps c.in_ok-signalling.signalling c.in_ok-media.media.entries c.in_ok-apns.apns.entries good c.in_ok-apns.ensures.read
