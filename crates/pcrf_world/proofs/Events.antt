-- What is seen of a world after each event is what the definitions say by what was seen before.
use Rattle.std.proofs.Common.{◌≡◌, ℕ, Bool, true, false, List, [], ◌∷◌, ◌++◌, slice_get, slice_set, Option, Some, None, Ok, Err, refl, sym, ap, ◌∙◌}
use Rattle.pcrf_model.specs.Operations.{Operation}
use Rattle.pcrf_model.specs.Requests.{RequestValue}
use Rattle.pcrf_model.specs.Replies.{PushValue, AbortValue, ReplyValue, Pushed, Aborted, Retold}
use Rattle.pcrf_model.specs.Pushing.{lacks_counter}
use Rattle.pcrf_model.specs.Aborting.{lacks_counter_to_abort}
use Rattle.pcrf_model.specs.Retelling.{lacks_counter_to_retell}
use Rattle.pcrf_model.specs.Tables.{Tables}
use Rattle.pcrf_model.specs.Letters.{LetterBody, LetterValue}
use Rattle.pcrf_model.specs.Cursors.{ask, ack_letter, ack_of}
use Rattle.pcrf_model.specs.Worlds.{ServeAt, PushAt, AbortAt, RetellAt, Letter, Merge, Ack, Restart, Replied, PushedOut, AbortedOut, RetoldOut, Lettered, Merged, Restarted, ClockFull, NoMemory, Gives, SiteView, WorldView, ByCursors, asked_body}
use Rattle.pcrf_model.specs.Seen.{view_made, view_served, view_pushed, view_aborted, view_retold, view_merged, view_in_part, view_again, view_letter, view_ack, see_change, see_change_by, world_view_after}
use Rattle.site_machine.specs.Sites.{with_made, serve_outcome, push_outcome_at, abort_outcome_at, retell_outcome_at}
use Rattle.pcrf_world.specs.Members.{seen_of, with_site, started_again}
use Rattle.pcrf_world.specs.Values.{setting}
use Rattle.peer_exchange.specs.Making.{letter_made}
use Rattle.pcrf_world.specs.declared.site.Member.{Member}
use Rattle.pcrf_world.proofs.Members.{world_of, seen_at, seen_set}

-- ---- what a site of a world answers

module _ (g : Tables) (ms : List Member) (ls : List LetterValue) (i : ℕ) (m : Member) (at : slice_get ms i ≡ Some m) (is : m.site.tables ≡ g) where
  -- to a request
  pub served_gives : (q : RequestValue) (r : ReplyValue) → r ≡ (serve_outcome m.site q).reply → Gives (setting g) (world_of ms ls) (ServeAt i q) (Ok (Replied r))
  served_gives q r so =
      let reply : r ≡ (view_served (setting g) q (seen_of m)).reply = so ∙ ap (λ (t : Tables). (view_served (setting t) q (seen_of m)).reply) is in
      rw (seen_at ms i m at) (ap (λ (x : ReplyValue). Ok (Replied x)) reply)

  -- what it pushed
  pub pushed_gives : (name : Option (List ℕ)) (p : Option PushValue) → Pushed p ≡ (push_outcome_at m.site name).reply → lacks_counter m.site.tables m.site.number m.site.state.holding name ≡ false
      → Gives (setting g) (world_of ms ls) (PushAt i name) (Ok (PushedOut p))
  pushed_gives name p so room =
      let reply : (view_pushed (setting g) name (seen_of m)).reply ≡ Pushed p = sym (so ∙ ap (λ (t : Tables). (view_pushed (setting t) name (seen_of m)).reply) is) in
      let left : lacks_counter g m.site.number m.site.state.holding name ≡ false = ap (λ (t : Tables). lacks_counter t m.site.number m.site.state.holding name) (sym is) ∙ room in
      rw (seen_at ms i m at, left, reply) refl

  -- that no counter is left
  pub full_gives : (name : Option (List ℕ)) → lacks_counter m.site.tables m.site.number m.site.state.holding name ≡ true → Gives (setting g) (world_of ms ls) (PushAt i name) (Err ClockFull)
  full_gives name full =
      let none : lacks_counter g m.site.number m.site.state.holding name ≡ true = ap (λ (t : Tables). lacks_counter t m.site.number m.site.state.holding name) (sym is) ∙ full in
      rw (seen_at ms i m at, none) refl

module _ (g : Tables) (ms : List Member) (ls : List LetterValue) (i : ℕ) (m : Member) (at : slice_get ms i ≡ Some m) where
  -- which session it aborted
  pub aborted_gives : (name : Option (List ℕ)) (a : Option AbortValue) → Aborted a ≡ (abort_outcome_at m.site name).reply → lacks_counter_to_abort m.site.number m.site.state.holding name ≡ false
      → Gives (setting g) (world_of ms ls) (AbortAt i name) (Ok (AbortedOut a))
  aborted_gives name a so room =
      let reply : (view_aborted name (seen_of m)).reply ≡ Aborted a = sym so in
      rw (seen_at ms i m at, room, reply) refl

  -- that no counter is left
  pub full_to_abort : (name : Option (List ℕ)) → lacks_counter_to_abort m.site.number m.site.state.holding name ≡ true → Gives (setting g) (world_of ms ls) (AbortAt i name) (Err ClockFull)
  full_to_abort name full = rw (seen_at ms i m at, full) refl

  -- whether it counts what a gateway was told as not there
  pub retold_gives : (id : List ℕ) (done : Bool) → Retold done ≡ (retell_outcome_at m.site id).reply → lacks_counter_to_retell m.site.state.holding id ≡ false
      → Gives (setting g) (world_of ms ls) (RetellAt i id) (Ok (RetoldOut done))
  retold_gives id done so room =
      let reply : (view_retold id (seen_of m)).reply ≡ Retold done = sym so in
      rw (seen_at ms i m at, room, reply) refl

  -- that no counter is left
  pub full_to_retell : (id : List ℕ) → lacks_counter_to_retell m.site.state.holding id ≡ true → Gives (setting g) (world_of ms ls) (RetellAt i id) (Err ClockFull)
  full_to_retell id full = rw (seen_at ms i m at, full) refl

-- ---- each event, at a site of a world

-- with an operation that the site made, it is seen with that operation
seen_made : (m : Member) (o : Option Operation) → seen_of (with_site m (with_made m.site o)) ≡ view_made o (seen_of m)
seen_made m None = refl
seen_made m (Some o) = refl

-- a change, where the site is
see_change_at : (v : WorldView) (i : ℕ) (k : SiteView → SiteView) (s : SiteView) → slice_get v.sites i ≡ Some s → see_change v i k ≡ record v { sites = slice_set v.sites i (k s) }
see_change_at v i k s at = rw at refl

-- a change by a letter, where the letter is
see_change_by_at : (v : WorldView) (j n : ℕ) (k : LetterValue → SiteView → SiteView) (l : LetterValue) → slice_get v.letters n ≡ Some l → see_change_by v j n k ≡ see_change v j (k l)
see_change_by_at v j n k l at = rw at refl

module _ (g : Tables) (ms : List Member) (ls : List LetterValue) (i : ℕ) (m : Member) (at : slice_get ms i ≡ Some m) where
  -- where a site is changed as it is seen
  changes : (k : SiteView → SiteView) (n : Member) → seen_of n ≡ k (seen_of m) → world_of (slice_set ms i n) ls ≡ see_change (world_of ms ls) i k
  changes k n is = seen_set ms ls i n (k (seen_of m)) is ∙ sym (see_change_at (world_of ms ls) i k (seen_of m) (seen_at ms i m at))

  -- it started again
  pub restarted_at : (epoch : ℕ) → world_of (slice_set ms i (started_again m)) ls ≡ world_view_after (setting g) (world_of ms ls) (Restart i) (Ok (Restarted epoch))
  restarted_at epoch = changes view_again (started_again m) refl

  -- it aborted a session
  pub aborted_at : (name : Option (List ℕ)) (a : Option AbortValue) → world_of (slice_set ms i (with_site m (with_made m.site (abort_outcome_at m.site name).added))) ls ≡ world_view_after (setting g) (world_of ms ls) (AbortAt i name) (Ok (AbortedOut a))
  aborted_at name a = changes (λ (x : SiteView). view_made (view_aborted name x).added x) (with_site m (with_made m.site (abort_outcome_at m.site name).added)) (seen_made m (abort_outcome_at m.site name).added)

  -- it counted what a gateway was told as not there
  pub retold_at : (id : List ℕ) (done : Bool) → world_of (slice_set ms i (with_site m (with_made m.site (retell_outcome_at m.site id).added))) ls ≡ world_view_after (setting g) (world_of ms ls) (RetellAt i id) (Ok (RetoldOut done))
  retold_at id done = changes (λ (x : SiteView). view_made (view_retold id x).added x) (with_site m (with_made m.site (retell_outcome_at m.site id).added)) (seen_made m (retell_outcome_at m.site id).added)

  module _ (is : m.site.tables ≡ g) where
    -- it served a request
    pub served_at : (q : RequestValue) (r : ReplyValue) → world_of (slice_set ms i (with_site m (with_made m.site (serve_outcome m.site q).added))) ls ≡ world_view_after (setting g) (world_of ms ls) (ServeAt i q) (Ok (Replied r))
    served_at q r = changes (λ (x : SiteView). view_made (view_served (setting g) q x).added x) (with_site m (with_made m.site (serve_outcome m.site q).added))
        (seen_made m (serve_outcome m.site q).added ∙ ap (λ (t : Tables). view_made (view_served (setting t) q (seen_of m)).added (seen_of m)) is)

    -- it pushed
    pub pushed_at : (name : Option (List ℕ)) (p : Option PushValue) → world_of (slice_set ms i (with_site m (with_made m.site (push_outcome_at m.site name).added))) ls ≡ world_view_after (setting g) (world_of ms ls) (PushAt i name) (Ok (PushedOut p))
    pushed_at name p = changes (λ (x : SiteView). view_made (view_pushed (setting g) name x).added x) (with_site m (with_made m.site (push_outcome_at m.site name).added))
        (seen_made m (push_outcome_at m.site name).added ∙ ap (λ (t : Tables). view_made (view_pushed (setting t) name (seen_of m)).added (seen_of m)) is)

    -- it wrote to a peer
    pub lettered_at : m.cursors.site ≡ m.site.number → (j k : ℕ) → world_of ms (ls ++ letter_made m.cursors m.site j ∷ []) ≡ world_view_after (setting g) (world_of ms ls) (Letter i j) (Ok (Lettered k))
    lettered_at own j k =
        let body : LetterBody = asked_body (seen_of m) (ask m.cursors j) in
        let letter : letter_made m.cursors m.site j ≡ view_letter (setting g) j (seen_of m) = λ n. record { edition = (ap (λ (t : Tables). t.edition) is) n; site = own n; epoch = m.cursors.epoch; body = body } in
        rw (seen_at ms i m at) (ap (λ (l : LetterValue). world_of ms (ls ++ l ∷ [])) letter)

    -- it told a maker what it took of it
    pub acknowledged_at : (maker k : ℕ) → world_of ms (ls ++ ack_letter m.site.tables.edition (ack_of m.cursors maker) ∷ []) ≡ world_view_after (setting g) (world_of ms ls) (Ack i maker) (Ok (Lettered k))
    acknowledged_at maker k =
        let letters : ls ++ ack_letter m.site.tables.edition (ack_of m.cursors maker) ∷ [] ≡ ls ++ view_ack (setting g) maker (seen_of m) ∷ [] = ap (λ (t : Tables). ls ++ ack_letter t.edition (ack_of m.cursors maker) ∷ []) is in
        rw (seen_at ms i m at) (ap (world_of ms) letters)

  module _ (k : ℕ) (l : LetterValue) (there : slice_get ls k ≡ Some l) (n : Member) where
    -- it took something of a letter
    taken_at : (f : LetterValue → SiteView → SiteView) → seen_of n ≡ f l (seen_of m) → world_of (slice_set ms i n) ls ≡ see_change_by (world_of ms ls) i k f
    taken_at f same = changes (f l) n same ∙ sym (see_change_by_at (world_of ms ls) i k f l there)

    -- all of it
    pub merged_at : seen_of n ≡ view_merged ByCursors l (seen_of m) → world_of (slice_set ms i n) ls ≡ world_view_after (setting g) (world_of ms ls) (Merge i k) (Ok Merged)
    merged_at = taken_at (view_merged ByCursors)

    -- the first operations of it
    pub merged_in_part_at : (count : ℕ) → seen_of n ≡ view_in_part count l (seen_of m) → world_of (slice_set ms i n) ls ≡ world_view_after (setting g) (world_of ms ls) (Merge i k) (Err (NoMemory count))
    merged_in_part_at count = taken_at (view_in_part count)
