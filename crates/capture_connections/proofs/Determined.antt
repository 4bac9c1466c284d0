-- What a direction gave by its segments is what they determine.
use Rattle.std.proofs.Common.{◌≡◌, ◌≢◌, ℕ, suc, Bool, true, false, List, [], ◌∷◌, ◌++◌, length, refl, sym, ap, ◌∙◌, subst, inl, inr, append_assoc, append-nil}
use Rattle.std.proofs.lemmas.Bool.{eqb-true, eqb-false}
use Rattle.std.proofs.lemmas.List.{append_cancel_left}
use Rattle.std.specs.Prelude.{slice_get, Some, None, Option, ◌==◌, ◌&&◌, if◌then◌else◌}
use Rattle.std.specs.List.{AllByRecursion}
use Rattle.tcp_streams.specs.Placing.{Numbered}
use Rattle.tcp_streams.specs.Reassembly.{Taking, TakesSegment, opening_direction}
use Rattle.tcp_streams.proofs.Answered.{AreTaken, none_taken, taken_more, all_taken}
use Rattle.capture_connections.specs.declared.belonging.Last.{Last}
use Rattle.capture_connections.specs.declared.belonging.Start.{Start}
use Rattle.capture_connections.specs.declared.belonging.Start.TheVariants.{Unknown, Bytes, Syn}
use Rattle.capture_connections.specs.declared.connections.Connection.{Connection}
use Rattle.capture_connections.specs.declared.ends.Ends.{Ends}
use Rattle.capture_connections.specs.declared.ends.Side.{Side}
use Rattle.capture_connections.specs.declared.ends.Side.TheVariants.{Lower, Upper}
use Rattle.capture_connections.specs.declared.half.Half.{Half}
use Rattle.capture_connections.specs.declared.heard.Heard.{Heard}
use Rattle.capture_connections.specs.declared.heard.Said.{Said}
use Rattle.capture_connections.specs.Belonging.{start_after}
use Rattle.capture_connections.specs.Directions.{AreDetermined, AreKnown, AreKnownFrom, GathersSide, TableAdvances, SaysSome, direction_of, half_at, has_some, if_of, if_some, sent_by, start_after_all, with_bytes}
use Rattle.capture_connections.specs.Following.{DirectionStep, FeedsSome, HalfTakes, TableStep, KeepsConnections, KeepsConnectionAt, MayEnd, DirectionsStep, Table, direction_given_up, lower_of, no_connections, numbered_heard, direction_opened, upper_of, most_waiting_in_direction}
use Rattle.capture_connections.specs.SameEnds.{same_ends}
use Rattle.capture_connections.specs.Sides.{is_side}
use Rattle.std.specs.Map.{lookup}
use Rattle.capture_connections.specs.Private.{KnownEnds, known_after, known_of, own, owner_among}
use Rattle.capture_connections.proofs.Apart.{known_next}

-- ---- lists of segments, one more at the end

start_more : (start : Start) (done : List Heard) (heard : Heard)
    → start_after_all start (done ++ heard ∷ []) ≡ start_after (start_after_all start done) heard.said
start_more start [] heard = refl
start_more start (h ∷ done) heard = start_more (start_after start h.said) done heard

if_some_append : (bytes : List ℕ) (s : Numbered) (xs ys : List Numbered)
    → if_some bytes s (xs ++ ys) ≡ if_some bytes s xs ++ ys
if_some_append [] s xs ys = refl
if_some_append (b ∷ bytes) s xs ys = refl

bytes_more : (done : List Heard) (heard : Heard)
    → with_bytes (done ++ heard ∷ []) ≡ with_bytes done ++ if_some heard.bytes.now (numbered_heard heard) []
bytes_more [] heard = refl
bytes_more (h ∷ done) heard =
    ap (if_some h.bytes.now (numbered_heard h)) (bytes_more done heard)
    ∙ if_some_append h.bytes.now (numbered_heard h) (with_bytes done) (if_some heard.bytes.now (numbered_heard heard) [])

-- ---- a direction, by its own segments

-- the start has this number
abbrev pub BeginsAt : Start → ℕ → Type 0
BeginsAt Unknown first = ⊥
BeginsAt (Bytes n) first = n ≡ first
BeginsAt (Syn n) first = n ≡ first

-- what was taken of a direction with this start: nothing, or what these segments are
abbrev pub WasTaken : Start → Option Taking → List Numbered → List ℕ → Type 0
WasTaken start None segments given = (segments ≡ []) × (given ≡ [])
WasTaken start (Some taking) segments given =
    (first : ℕ) × BeginsAt start first × AreTaken first segments given taking

-- a direction that is followed is what its segments made of it
abbrev pub IsOfSegments : List Heard → List ℕ → Half → Type 0
IsOfSegments done given half = half.stop ≡ None
    → (half.start ≡ start_after_all Unknown done)
    × WasTaken half.start half.direction (with_bytes done) given

-- the start of a stream does not change
begins_on : (start : Start) (said : Said) (first : ℕ) → BeginsAt start first
    → BeginsAt (start_after start said) first
begins_on Unknown said first h = absurd h
begins_on (Bytes n) said first h = h
begins_on (Syn n) said first h = h

known_from : (start : Start) (direction : Option Taking) (segments : List Numbered) (given : List ℕ)
    → WasTaken start direction segments given → AreKnownFrom start segments given
known_from Unknown None segments given w = w.1
known_from (Bytes n) None segments given w =
    let a : AreDetermined n [] [] = all_taken n [] [] (opening_direction n most_waiting_in_direction) (none_taken n most_waiting_in_direction) in
    subst (λ (s : List Numbered). AreDetermined n s given) (sym w.0)
    (subst (λ (g : List ℕ). AreDetermined n [] g) (sym w.1) a)
known_from (Syn n) None segments given w =
    let a : AreDetermined n [] [] = all_taken n [] [] (opening_direction n most_waiting_in_direction) (none_taken n most_waiting_in_direction) in
    subst (λ (s : List Numbered). AreDetermined n s given) (sym w.0)
    (subst (λ (g : List ℕ). AreDetermined n [] g) (sym w.1) a)
known_from Unknown (Some taking) segments given w = absurd w.1
known_from (Bytes n) (Some taking) segments given w =
    subst (λ (m : ℕ). AreDetermined m segments given) (sym w.1) (all_taken w.0 segments given taking w.2)
known_from (Syn n) (Some taking) segments given w =
    subst (λ (m : ℕ). AreDetermined m segments given) (sym w.1) (all_taken w.0 segments given taking w.2)

-- a segment with bytes was taken
fed_some : (first : ℕ) (done : List Numbered) (s : Numbered) (old new : Taking)
    (given before more : List ℕ) → AreTaken first done given old
    → TakesSegment old s new before (before ++ more) → AreTaken first (done ++ s ∷ []) (given ++ more) new
fed_some first done s old new given before more a t =
    let e : more ≡ t.more = append_cancel_left before more t.more t.given in
    taken_more first done s old new given (given ++ more) a (record {
      piece = t.piece;
      more = t.more;
      placed = t.placed;
      given = ap (λ (m : List ℕ). given ++ m) e;
      moves = t.moves;
      agrees = t.agrees;
      same_first = t.same_first;
      same_limit = t.same_limit;
      within = t.within;
    })

-- a segment with bytes opens a stream
start_told : (syn some : Bool) (first : ℕ) → some ≡ true
    → (if syn then Syn first else (if some then Bytes first else Unknown)) ≡ Unknown → ⊥
start_told true some first p e = cc
start_told false true first p e = cc
start_told false false first p e = cc

not_unknown : (start : Start) (said : Said) → said.some ≡ true → start_after start said ≡ Unknown → ⊥
not_unknown Unknown said some e = start_told said.syn said.some said.first some e
not_unknown (Bytes n) said some e = cc
not_unknown (Syn n) said some e = cc

-- the first bytes of a stream
first_fed : (start : Start) (s : Numbered) (new : Option Taking) (before more : List ℕ)
    → (start ≡ Unknown → ⊥) → DirectionStep (direction_opened None start) s new before (before ++ more)
    → WasTaken start new (s ∷ []) more
first_fed Unknown s new before more known f = absurd (known refl)
first_fed (Bytes n) s new before more known f =
    let a : AreTaken n (s ∷ []) more f.0 =
    fed_some n [] s (opening_direction n most_waiting_in_direction) f.0 [] before more (none_taken n most_waiting_in_direction) f.2 in
    subst (λ (t : Option Taking). WasTaken (Bytes n) t (s ∷ []) more) (sym f.1) (n, refl, a)
first_fed (Syn n) s new before more known f =
    let a : AreTaken n (s ∷ []) more f.0 =
    fed_some n [] s (opening_direction n most_waiting_in_direction) f.0 [] before more (none_taken n most_waiting_in_direction) f.2 in
    subst (λ (t : Option Taking). WasTaken (Syn n) t (s ∷ []) more) (sym f.1) (n, refl, a)

-- bytes of a direction, after what was taken of it
fed : (start : Start) (said : Said) (direction : Option Taking) (done : List Numbered) (s : Numbered)
    (new : Option Taking) (given before more : List ℕ)
    → WasTaken start direction done given → (start_after start said ≡ Unknown → ⊥)
    → DirectionStep (direction_opened direction (start_after start said)) s new before (before ++ more)
    → WasTaken (start_after start said) new (done ++ s ∷ []) (given ++ more)
fed start said None done s new given before more w known f =
    let a : WasTaken (start_after start said) new (s ∷ []) more =
    first_fed (start_after start said) s new before more known f in
    subst (λ (d : List Numbered). WasTaken (start_after start said) new (d ++ s ∷ []) (given ++ more))
    (sym w.0)
    (subst (λ (g : List ℕ). WasTaken (start_after start said) new (s ∷ []) (g ++ more)) (sym w.1) a)
fed start said (Some old) done s new given before more w known f =
    let a : AreTaken w.0 (done ++ s ∷ []) (given ++ more) f.0 =
    fed_some w.0 done s old f.0 given before more w.2 f.2 in
    subst (λ (t : Option Taking). WasTaken (start_after start said) t (done ++ s ∷ []) (given ++ more))
    (sym f.1) (w.0, begins_on start said w.0 w.1, a)

-- a segment without bytes leaves what was taken
kept_on : (start : Start) (said : Said) (direction : Option Taking) (done : List Numbered)
    (given : List ℕ) → WasTaken start direction done given
    → WasTaken (start_after start said) direction done given
kept_on start said None done given w = w
kept_on start said (Some old) done given w = (w.0, begins_on start said w.0 w.1, w.2)

nothing_more : (before more : List ℕ) → before ++ more ≡ before → more ≡ []
nothing_more before more e = append_cancel_left before more [] (e ∙ sym (append-nil before))

-- by cases on the bytes of a segment
fed_bytes : (bytes : List ℕ) (old : Half) (heard : Heard) (new : Half) (done : List Numbered)
    (given before more : List ℕ) → heard.said.some ≡ has_some bytes
    → new.start ≡ start_after old.start heard.said
    → FeedsSome old heard bytes new before (before ++ more)
    → WasTaken old.start old.direction done given
    → WasTaken new.start new.direction (done ++ if_some bytes (numbered_heard heard) []) (given ++ more)
fed_bytes [] old heard new done given before more says starts f w =
    let e : more ≡ [] = nothing_more before more f.1 in
    let P : List ℕ → Type 0 = λ g. WasTaken new.start new.direction (done ++ []) (given ++ g) in
    let Q : List Numbered → Type 0 = λ d. WasTaken new.start new.direction d (given ++ []) in
    let R : List ℕ → Type 0 = λ g. WasTaken new.start new.direction done g in
    let S : Start → Type 0 = λ s. WasTaken s new.direction done given in
    let T : Option Taking → Type 0 = λ d. WasTaken (start_after old.start heard.said) d done given in
    subst P (sym e) (subst Q (sym (append-nil done)) (subst R (sym (append-nil given))
    (subst S (sym starts) (subst T (sym f.0) (kept_on old.start heard.said old.direction done given w)))))
fed_bytes (b ∷ bytes) old heard new done given before more says starts f w =
    let P : Start → Type 0 = λ s. DirectionStep (direction_opened old.direction s) (numbered_heard heard) new.direction before (before ++ more) in
    let Q : Start → Type 0 = λ s. WasTaken s new.direction (done ++ numbered_heard heard ∷ []) (given ++ more) in
    subst Q (sym starts) (fed old.start heard.said old.direction done (numbered_heard heard) new.direction given
    before more w (not_unknown old.start heard.said says) (subst P starts f))

-- a segment of a direction
of_one_more : (done : List Heard) (given : List ℕ) (old : Half) (heard : Heard) (new : Half)
    (before more : List ℕ) → SaysSome heard → HalfTakes old heard new before (before ++ more)
    → IsOfSegments done given old → IsOfSegments (done ++ heard ∷ []) (given ++ more) new
of_one_more done given old heard new before more says takes is = λ followed.
    let f : (old.stop ≡ None) × FeedsSome old heard heard.bytes.now new before (before ++ more) =
    takes.fed followed in
    let w : (old.start ≡ start_after_all Unknown done) × WasTaken old.start old.direction (with_bytes done) given =
    is f.0 in
    let P : List Numbered → Type 0 = λ d. WasTaken new.start new.direction d (given ++ more) in (
      takes.start ∙ ap (λ (s : Start). start_after s heard.said) w.0 ∙ sym (start_more Unknown done heard),
      subst P (sym (bytes_more done heard))
          (fed_bytes heard.bytes.now old heard new (with_bytes done) given before more says takes.start f.1 w.1),
    )

stopped_not : (old new : Half) → new ≡ direction_given_up old → new.stop ≡ None → ⊥
stopped_not old new e n = let g : (direction_given_up old).stop ≡ None = sym (ap (λ (h : Half). h.stop) e) ∙ n in cc

-- a direction that may be given up
of_settled : (done : List Heard) (given : List ℕ) (old new : Half) → MayEnd old new
    → IsOfSegments done given old → IsOfSegments done given new
of_settled done given old new (inl e) is = subst (IsOfSegments done given) (sym e) is
of_settled done given old new (inr e) is = λ followed. absurd (stopped_not old new e.1 followed)

-- a direction that took nothing
no_more : (done : List Heard) (given : List ℕ) (old new : Half) → new ≡ old
    → IsOfSegments done given old → IsOfSegments (done ++ []) (given ++ []) new
no_more done given old new e is =
    let P : List Heard → Type 0 = λ d. IsOfSegments d (given ++ []) new in
    let Q : List ℕ → Type 0 = λ g. IsOfSegments done g new in
    subst P (sym (append-nil done)) (subst Q (sym (append-nil given))
    (subst (IsOfSegments done given) (sym e) is))

settled_at : (side : Side) (done : List Heard) (given : List ℕ) (old new : Option Connection)
    → KeepsConnectionAt old new → IsOfSegments done given (half_at side old)
    → IsOfSegments done given (half_at side new)
settled_at side done given None None k is = is
settled_at side done given None (Some new) k is = absurd k
settled_at side done given (Some old) None k is = absurd k
settled_at Lower done given (Some old) (Some new) k is = of_settled done given old.lower new.lower k.lower is
settled_at Upper done given (Some old) (Some new) k is = of_settled done given old.upper new.upper k.upper is

-- ---- a connection and its two ends

-- the segments and the bytes of an end after a segment of its connection
ends_more : (side by : Side) (done : List Heard) (given : List ℕ) (heard : Heard)
    (old : Option Connection) (new : Connection) (before more : List ℕ) → SaysSome heard
    → DirectionsStep by (lower_of old) (upper_of old) heard new before (before ++ more)
    → IsOfSegments done given (half_at side old)
    → IsOfSegments (done ++ (if is_side side by then heard ∷ [] else []))
    (given ++ (if is_side side by then more else [])) (half_at side (Some new))
ends_more Lower Lower done given heard old new before more says steps is =
    of_one_more done given (lower_of old) heard new.lower before more says steps.0 is
ends_more Upper Upper done given heard old new before more says steps is =
    of_one_more done given (upper_of old) heard new.upper before more says steps.0 is
ends_more Lower Upper done given heard old new before more says steps is =
    no_more done given (lower_of old) new.lower steps.1 is
ends_more Upper Lower done given heard old new before more says steps is =
    no_more done given (upper_of old) new.upper steps.1 is

-- the direction is that of the connection, by cases on whether the segment belongs to it
numbered_more : (b : Bool) (wanted : ℕ) (side : Side) (done : List Heard) (given : List ℕ) (old : Table)
    (heard : Heard) (number : ℕ) (taken : Table) (before more : List ℕ) → (number == wanted) ≡ b
    → SaysSome heard → TableStep old heard number taken before (before ++ more)
    → IsOfSegments done given (direction_of old wanted side)
    → IsOfSegments (done ++ (if b && is_side side heard.said.side then heard ∷ [] else []))
    (given ++ (if b && is_side side heard.said.side then more else [])) (direction_of taken wanted side)
numbered_more true wanted side done given old heard number taken before more e says hears is =
    let same : number ≡ wanted = eqb-true number wanted e in
    let xs : List Heard = done ++ (if is_side side heard.said.side then heard ∷ [] else []) in
    let ys : List ℕ = given ++ (if is_side side heard.said.side then more else []) in
    let P : ℕ → Type 0 = λ n. IsOfSegments done given (direction_of old n side) in
    let Q : Option Connection → Type 0 = λ c. IsOfSegments xs ys (half_at side c) in
    let R : ℕ → Type 0 = λ n. IsOfSegments xs ys (direction_of taken n side) in
    let a : IsOfSegments xs ys (half_at side (Some hears.own.0)) =
    ends_more side heard.said.side done given heard (slice_get old.connections number) hears.own.0
    before more says hears.own.2 (subst P (sym same) is) in
    subst R same (subst Q (sym hears.own.1) a)
numbered_more false wanted side done given old heard number taken before more e says hears is =
    let other : wanted ≢ number = λ same. eqb-false number wanted e (sym same) in
    let P : Option Connection → Type 0 =
    λ c. IsOfSegments (done ++ []) (given ++ []) (half_at side c) in
    subst P (sym (hears.others wanted other)) (no_more done given (direction_of old wanted side)
    (direction_of old wanted side) refl is)

advanced : (wanted : ℕ) (side : Side) (done : List Heard) (given : List ℕ) (old : Table) (heard : Heard)
    (number : ℕ) (new : Table) (more : List ℕ) → SaysSome heard → TableAdvances old heard number new more
    → IsOfSegments done given (direction_of old wanted side)
    → IsOfSegments
    (done ++ (if (number == wanted) && is_side side heard.said.side then heard ∷ [] else []))
    (given ++ if_of wanted side number heard more) (direction_of new wanted side)
advanced wanted side done given old heard number new more says a is =
    settled_at side
    (done ++ (if (number == wanted) && is_side side heard.said.side then heard ∷ [] else []))
    (given ++ if_of wanted side number heard more) (slice_get a.taken.connections wanted) (slice_get new.connections wanted)
    (a.keeps wanted) (numbered_more (number == wanted) wanted side done given old heard number a.taken
    a.before more refl says a.hears is)

-- ---- the segments of a direction among all

sent_pick : (b c : Bool) (heard : Heard) (rest : List Heard) → b ≡ true
    → (if c then heard ∷ rest else rest) ≡ (if b && c then heard ∷ [] else []) ++ rest
sent_pick true true heard rest e = refl
sent_pick true false heard rest e = refl
sent_pick false c heard rest e = cc

sent_cond : (b : Bool) (side : Side) (heard : Heard) (rest : List Heard)
    → sent_by side (if b then heard ∷ rest else rest)
    ≡ (if b && is_side side heard.said.side then heard ∷ [] else []) ++ sent_by side rest
sent_cond true side heard rest = sent_pick true (is_side side heard.said.side) heard (sent_by side rest) refl
sent_cond false side heard rest = refl

keeps_length : (a b : List Connection) → KeepsConnections a b → length a ≡ length b
keeps_length [] [] k = refl
keeps_length [] (y ∷ b) k = absurd (k 0)
keeps_length (x ∷ a) [] k = absurd (k 0)
keeps_length (x ∷ a) (y ∷ b) k = ap suc (keeps_length a b (λ n. k (suc n)))

-- what is known after a segment
known_advanced : (old : Table) (heard : Heard) (number : ℕ) (new : Table) (more : List ℕ)
    → TableAdvances old heard number new more → known_of new ≡ known_after (known_of old) heard
known_advanced old heard number new more a =
    let F : ℕ → List (Ends × Last) → KnownEnds =
    λ n l. record { count = n; last = λ ends. lookup (same_ends ends) l } in
    let e : length new.connections ≡ length a.taken.connections =
    sym (keeps_length a.taken.connections new.connections a.keeps) in
    ap (λ (n : ℕ). F n new.last) e
    ∙ ap (λ (l : List (Ends × Last)). F (length a.taken.connections) l) a.last
    ∙ known_next old heard number a.taken a.before (a.before ++ more) a.hears

pub gathered : (wanted : ℕ) (side : Side) (segments : List Heard) (old new : Table) (given : List ℕ)
    (done : List Heard) (had : List ℕ) → AllByRecursion SaysSome segments
    → GathersSide wanted side old segments new given
    → IsOfSegments done had (direction_of old wanted side)
    → IsOfSegments (done ++ sent_by side (own wanted (known_of old) segments)) (had ++ given)
    (direction_of new wanted side)
gathered wanted side [] old new given done had says g is =
    let P : Table → Type 0 = λ t. IsOfSegments (done ++ []) (had ++ []) (direction_of t wanted side) in
    let Q : List ℕ → Type 0 = λ x. IsOfSegments (done ++ []) (had ++ x) (direction_of new wanted side) in
    subst Q (sym g.1) (subst P g.0 (no_more done had (direction_of old wanted side)
    (direction_of old wanted side) refl is))
gathered wanted side (heard ∷ segments) old new given done had says g is =
    let owner : ℕ = (owner_among (known_of old) heard).number in
    let pick : ℕ → List Heard =
    λ n. if (n == wanted) && is_side side heard.said.side then heard ∷ [] else [] in
    let some : List ℕ = if_of wanted side g.0 heard g.2 in
    let sent : KnownEnds → List Heard = λ v. sent_by side (own wanted v segments) in
    let half : Half = direction_of new wanted side in
    let a : IsOfSegments (done ++ pick g.0) (had ++ some) (direction_of g.1 wanted side) =
    advanced wanted side done had old heard g.0 g.1 g.2 says.0 g.4 is in
    let b : IsOfSegments ((done ++ pick g.0) ++ sent (known_of g.1)) ((had ++ some) ++ g.3) half =
    gathered wanted side segments g.1 new g.3 (done ++ pick g.0) (had ++ some) says.1 g.5 a in
    let after : KnownEnds = known_after (known_of old) heard in
    let all : done ++ sent_by side (own wanted (known_of old) (heard ∷ segments))
    ≡ (done ++ pick g.0) ++ sent (known_of g.1) =
    ap (λ (l : List Heard). done ++ l) (sent_cond (owner == wanted) side heard (own wanted after segments))
    ∙ sym (append_assoc done (pick owner) (sent after))
    ∙ ap (λ (n : ℕ). (done ++ pick n) ++ sent after) (sym g.4.hears.belongs)
    ∙ ap (λ (v : KnownEnds). (done ++ pick g.0) ++ sent v) (sym (known_advanced old heard g.0 g.1 g.2 g.4)) in
    let bytes : had ++ given ≡ (had ++ some) ++ g.3 =
    ap (λ (l : List ℕ). had ++ l) g.6 ∙ sym (append_assoc had some g.3) in
    let P : List Heard → Type 0 = λ l. IsOfSegments l ((had ++ some) ++ g.3) half in
    let Q : List ℕ → Type 0 =
    λ l. IsOfSegments (done ++ sent_by side (own wanted (known_of old) (heard ∷ segments))) l half in
    subst Q (sym bytes) (subst P (sym all) b)

none_heard : (wanted : ℕ) (side : Side) → IsOfSegments [] [] (direction_of no_connections wanted side)
none_heard wanted Lower = λ followed. (refl, (refl, refl))
none_heard wanted Upper = λ followed. (refl, (refl, refl))

-- what a direction gave that is followed
pub all_known : (wanted : ℕ) (side : Side) (segments : List Heard) (new : Table) (given : List ℕ)
    → AllByRecursion SaysSome segments → GathersSide wanted side no_connections segments new given
    → (direction_of new wanted side).stop ≡ None
    → AreKnown (sent_by side (own wanted (known_of no_connections) segments)) given
all_known wanted side segments new given says g followed =
    let half : Half = direction_of new wanted side in
    let sent : List Heard = sent_by side (own wanted (known_of no_connections) segments) in
    let r : (half.start ≡ start_after_all Unknown sent)
    × WasTaken half.start half.direction (with_bytes sent) given =
    gathered wanted side segments no_connections new given [] [] says g (none_heard wanted side) followed in
    subst (λ (s : Start). AreKnownFrom s (with_bytes sent) given) r.0
    (known_from half.start half.direction (with_bytes sent) given r.1)
