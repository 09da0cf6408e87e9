-- What a letter that is read says is what its version has.
use Rattle.std.proofs.Common.{◌≡◌, ℕ, true, ◌==◌, List, [], ◌∷◌, inl, inr, Option, Some, None, refl, sym, ap, ◌∙◌, subst}
use Rattle.std.specs.List.{list_all}
use Rattle.pcrf_values.proofs.Plain.{came_from, some_same}
use Rattle.pcrf_values.specs.Limits.{session_id_limit}
use Rattle.pcrf_values.specs.Facts.{Fact}
use Rattle.pcrf_model.specs.Forms.{is_operation}
use Rattle.pcrf_model.specs.Sessions.{Session, gx, af}
use Rattle.pcrf_model.specs.Operations.{Operation}
use Rattle.pcrf_model.specs.Letters.{LetterBody, Range, Snapshot, Acknowledgement, LetterValue}
use Rattle.fact_codec.specs.Reading.{Reader, given, many, byte, short, word, long}
use Rattle.fact_codec.specs.Said.{has_fact, text, tag_of_stamp, gx_fact, af_fact, held_gx_fact, held_af_fact, facts}
use Rattle.fact_codec.proofs.HadLaws.{steps, gives, either_reads, many_had, facts_had, gx_fact_had, af_fact_had, held_gx_fact_had, held_af_fact_had}
use Rattle.site_join.specs.Formed.{if_formed}
use Rattle.site_join.specs.Groups.{Group, held_in, are_groups}
use Rattle.site_join.proofs.FormedGroups.{formed_again}
use Rattle.peer_exchange.specs.Form.{has_body, is_addressed, if_addressed}
use Rattle.peer_exchange.specs.Reading.{gx_group, af_group, group, operation, range, held_gx_group, held_af_group, held_group, if_held, snapshot, acknowledgement, body, content}

-- what is given was there
given_was : {A : Type 0} (o : Option A) (bytes : List ℕ) (y : A × List ℕ) → given o bytes ≡ Some y → o ≡ Some y.0
given_was None bytes y h = absurd cc
given_was (Some x) bytes y h = ap Some (gives x bytes y h)

module _ (v : ℕ) where
  -- letters of the version have all facts of the session
  abbrev had_on : Session × List Fact → Type 0
  had_on g = list_all (has_fact v) g.1 ≡ true

  -- those of a session that were read behind its Session-Id
  named_had : (kind : List ℕ → Session) (r : Reader Fact) → ((bytes : List ℕ) (y : Fact × List ℕ) → r bytes ≡ Some y → has_fact v y.0 ≡ true)
      → (a : List ℕ × List ℕ) (b : List Fact × List ℕ) (y : (Session × List Fact) × List ℕ) → facts r a.1 ≡ Some b → (kind a.0, b.0) ≡ y.0 → had_on y.0
  named_had kind r each a b y read same = subst had_on same (facts_had v r each a.1 b read)

  group_had : (counter site number : ℕ) (bytes : List ℕ) (y : (Session × List Fact) × List ℕ) → group v counter site number bytes ≡ Some y → had_on y.0
  unfolding group
  group_had counter site number bytes y h =
      let k = steps (byte bytes) _ y h in
      let rest = k.0.1 in
      let field_tag = tag_of_stamp number counter site in
      let told_tag = tag_of_stamp 0 counter site in
      elim (either_reads (k.0.0 == 1) _ _ rest y k.2) [
        | inl i ↦ (let a = steps (text session_id_limit rest) _ y i in
            let b = steps (facts (gx_fact v field_tag told_tag) a.0.1) _ y a.2 in
            named_had gx (gx_fact v field_tag told_tag) (gx_fact_had v field_tag told_tag) a.0 b.0 y b.1 (gives (gx a.0.0, b.0.0) b.0.1 y b.2))
        | inr i ↦ elim (either_reads (k.0.0 == 2) _ _ rest y i) [
          | inl j ↦ (let a = steps (text session_id_limit rest) _ y j in
              let b = steps (facts (af_fact v told_tag) a.0.1) _ y a.2 in
              named_had af (af_fact v told_tag) (af_fact_had v told_tag) a.0 b.0 y b.1 (gives (af a.0.0, b.0.0) b.0.1 y b.2))
          | inr j ↦ absurd cc
        ]
      ]

  held_group_had : (bytes : List ℕ) (y : Group × List ℕ) → held_group v bytes ≡ Some y → list_all (has_fact v) y.0.1 ≡ true
  unfolding held_group
  held_group_had bytes y h =
      let k = steps (byte bytes) _ y h in
      let rest = k.0.1 in
      elim (either_reads (k.0.0 == 1) _ _ rest y k.2) [
        | inl i ↦ (let a = steps (text session_id_limit rest) _ y i in
            let b = steps (facts (held_gx_fact v) a.0.1) _ y a.2 in
            named_had gx (held_gx_fact v) (held_gx_fact_had v) a.0 b.0 y b.1 (gives (gx a.0.0, b.0.0) b.0.1 y b.2))
        | inr i ↦ elim (either_reads (k.0.0 == 2) _ _ rest y i) [
          | inl j ↦ (let a = steps (text session_id_limit rest) _ y j in
              let b = steps (facts (held_af_fact v) a.0.1) _ y a.2 in
              named_had af (held_af_fact v) (held_af_fact_had v) a.0 b.0 y b.1 (gives (af a.0.0, b.0.0) b.0.1 y b.2))
          | inr j ↦ absurd cc
        ]
      ]

  operation_had : (bytes : List ℕ) (y : Operation × List ℕ) → operation v bytes ≡ Some y → list_all (has_fact v) y.0.facts ≡ true
  unfolding operation
  operation_had bytes y h =
      let a = steps (long bytes) _ y h in
      let b = steps (byte a.0.1) _ y a.2 in
      let d = steps (word b.0.1) _ y b.2 in
      let e = steps (group v a.0.0 b.0.0 d.0.0 d.0.1) _ y d.2 in
      let o : Operation = record { counter = a.0.0; site = b.0.0; number = d.0.0; session = e.0.0.0; facts = e.0.0.1 } in
      let made = given_was (if_formed o) e.0.1 y e.2 in
      let same = some_same o y.0 (came_from (is_operation o) (Some o) y.0 made).1 in
      subst (λ (p : Operation). list_all (has_fact v) p.facts ≡ true) same (group_had a.0.0 b.0.0 d.0.0 d.0.1 e.0 e.1)

  snapshot_had : (bytes : List ℕ) (y : LetterBody × List ℕ) → snapshot v bytes ≡ Some y → has_body v y.0 ≡ true
  unfolding snapshot
  snapshot_had bytes y h =
      let a = steps (long bytes) _ y h in
      let b = steps (long a.0.1) _ y a.2 in
      let d = steps (word b.0.1) _ y b.2 in
      let e = steps (many (held_group v) d.0.0 d.0.1) _ y d.2 in
      let clock = a.0.0 in
      let gs = e.0.0 in
      let made = given_was (if_held clock b.0.0 gs) e.0.1 y e.2 in
      let held = came_from (are_groups clock gs) (Some (Snapshot (held_in clock gs) b.0.0)) y.0 made in
      let each = many_had (held_group v) (λ (g : Group). list_all (has_fact v) g.1) held_group_had d.0.0 d.0.1 e.0 e.1 in
      let same = some_same (Snapshot (held_in clock gs) b.0.0) y.0 held.1 in
      subst (λ (x : LetterBody). has_body v x ≡ true) same
      (subst (λ (l : List Group). list_all (λ (g : Group). list_all (has_fact v) g.1) l ≡ true) (sym (formed_again clock gs held.0)) each)

  body_had : (bytes : List ℕ) (y : LetterBody × List ℕ) → body v bytes ≡ Some y → has_body v y.0 ≡ true
  unfolding body range acknowledgement
  body_had bytes y h =
      let k = steps (byte bytes) _ y h in
      let rest = k.0.1 in
      elim (either_reads (k.0.0 == 1) _ _ rest y k.2) [
        | inl i ↦ (let a = steps (long rest) _ y i in
            let b = steps (word a.0.1) _ y a.2 in
            let d = steps (many (operation v) b.0.0 b.0.1) _ y b.2 in
            let each = many_had (operation v) (λ (o : Operation). list_all (has_fact v) o.facts) operation_had b.0.0 b.0.1 d.0 d.1 in
            subst (λ (x : LetterBody). has_body v x ≡ true) (gives (Range a.0.0 d.0.0) d.0.1 y d.2) each)
        | inr i ↦ elim (either_reads (k.0.0 == 2) _ _ rest y i) [
          | inl j ↦ snapshot_had rest y j
          | inr j ↦ elim (either_reads (k.0.0 == 3) _ _ rest y j) [
            | inl l ↦ (let a = steps (byte rest) _ y l in
                let b = steps (short a.0.1) _ y a.2 in
                let d = steps (long b.0.1) _ y b.2 in
                subst (λ (x : LetterBody). has_body v x ≡ true) (gives (Acknowledgement a.0.0 b.0.0 d.0.0) d.0.1 y d.2) refl)
            | inr l ↦ absurd cc
          ]
        ]
      ]

  -- so it is of what follows the edition
  pub content_had : (edition : ℕ) (bytes : List ℕ) (y : LetterValue × List ℕ) → content v edition bytes ≡ Some y → has_body v y.0.body ≡ true
  unfolding content
  content_had edition bytes y h =
      let a = steps (byte bytes) _ y h in
      let b = steps (short a.0.1) _ y a.2 in
      let d = steps (body v b.0.1) _ y b.2 in
      let l : LetterValue = record { edition = edition; site = a.0.0; epoch = b.0.0; body = d.0.0 } in
      let made = given_was (if_addressed l) d.0.1 y d.2 in
      let same = some_same l y.0 (came_from (is_addressed l) (Some l) y.0 made).1 in
      subst (λ (m : LetterValue). has_body v m.body ≡ true) same (body_had b.0.1 d.0 d.1)
