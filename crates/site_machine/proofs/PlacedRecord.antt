-- The fields of a credit control request joined into the record of its session, and that put in its place.
use Rattle.std.proofs.Common.{◌≡◌, ℕ, ◌+◌, ◌<◌, ◌≤◌, max, true, List, sym, ap, ◌∙◌, subst, arith}
use Rattle.pcrf_values.specs.Facts.{Fact}
use Rattle.pcrf_values.specs.Held.{kept_list, join_of}
use Rattle.pcrf_values.specs.Limits.{last_counter, site_limit}
use Rattle.pcrf_model.specs.Sessions.{Gx, gx}
use Rattle.pcrf_model.specs.Holdings.{Holding, facts_on, kept_of, with_facts_of}
use Rattle.pcrf_model.specs.Operations.{Operation, with_operation}
use Rattle.pcrf_model.specs.Requests.{CcrValue, Ccr}
use Rattle.pcrf_model.specs.Forms.{are_up_to, is_holding, is_operation, is_record, is_request}
use Rattle.pcrf_model.proofs.FormLaws.{kept_in_form, with_operation_form}
use Rattle.pcrf_model.proofs.RecordForms.{holding_up_to, operation_record}
use Rattle.indexed_state.proofs.PlacedRecord.{placed_is_taken}
use Rattle.site_machine.specs.Facts.{fields_of, operation_made}
use Rattle.site_machine.specs.Sites.{SiteValue}
use Rattle.site_machine.proofs.Formed.{made_formed, stamped}

-- ---- the fields of a credit control request

module _ (s : SiteValue) (q : CcrValue) (counter : ℕ) (within : counter ≤ last_counter) (next : counter ≡ s.state.holding.clock + 1) (low : s.number < site_limit) (asked : is_request (Ccr q) ≡ true) where
  -- what the site holds
  abbrev h : Holding
  h = s.state.holding

  -- the operation of the fields
  abbrev made : Operation
  made = operation_made s.number counter q q.kind

  -- what is held with it
  abbrev with_fields : Holding
  with_fields = kept_of (with_operation h made)

  formed : is_operation made ≡ true
  formed = made_formed counter s.number q (stamped counter s.number (omega (arith, next)) within low) asked

  -- they make a record
  pub make_a_record : (fs : List Fact) → fs ≡ fields_of s.number counter q q.kind → is_record Gx fs ≡ true
  make_a_record fs e = ap (is_record Gx) e ∙ operation_record made formed

  -- the clock is the counter then
  counted : max h.clock counter ≡ counter
  counted = omega (arith, next)

  module _ (kept : kept_of h ≡ h) (fs one record_ : List Fact) (fields : fs ≡ fields_of s.number counter q q.kind) (of_one : one ≡ kept_list fs) (of_both : record_ ≡ join_of (facts_on h.facts (gx q.session)) one) where
    -- the record that is put
    pub put_is_made : with_facts_of h (gx q.session) record_ counter ≡ with_fields
    put_is_made =
        ap (λ (b : List Fact). with_facts_of h (gx q.session) b counter) (of_both ∙ ap (join_of (facts_on h.facts (gx q.session))) (of_one ∙ ap kept_list fields))
        ∙ placed_is_taken h made kept counter counted

    -- no tag is above the counter then
    pub put_up_to : is_holding h ≡ true → are_up_to counter (with_facts_of h (gx q.session) record_ counter).facts ≡ true
    put_up_to form =
        let up = holding_up_to with_fields (kept_in_form (with_operation h made) (with_operation_form h made form formed)) in
        subst (λ (k : Holding). are_up_to counter k.facts ≡ true) (sym put_is_made) (subst (λ (n : ℕ). are_up_to n with_fields.facts ≡ true) counted up)
