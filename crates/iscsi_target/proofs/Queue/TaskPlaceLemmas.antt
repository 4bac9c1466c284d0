-- Tasks as a program keeps them.
use Rattle.std.proofs.Common.{◌≡◌, ◌<◌, ℕ, zero, suc, List, [], ◌∷◌, length, Bool, true, false, Option, Some, None, refl, sym, ap, ◌∙◌}
use Rattle.std.proofs.Common.{arith}
use Rattle.std.specs.Prelude.{◌==◌, ◌||◌, not, map, drop, insert, remove, slice_index_or}
use Rattle.iscsi_target.specs.State.{takes_place, joined_task}
use Rattle.iscsi_target.specs.Transfer.{joined_write}
use Rattle.std.proofs.lemmas.Bool.{eqb-true}
use Rattle.iscsi_target.specs.Write.{Write}
use Rattle.iscsi_target.specs.declared.tasks.Task.{Task}
use Rattle.iscsi_target.specs.declared.tasks.Task.TheVariants.{Command, Data, Request}
use Rattle.iscsi_target.specs.Machine.{write_of, with_write, is_same_tag, task_tag, is_tag_of}
use Rattle.iscsi_target.specs.inner.Machine.{is_write_with}
use Rattle.iscsi_target.specs.Queue.{TakePlaces, tasks_behind}
use Rattle.iscsi_target.specs.inner.Inside.{IsWriteAt, AreInPlace}
use Rattle.iscsi_target_session.proofs.CaseLemmas.{by_cases}

-- none of the first n tasks is a write with the tag
abbrev pub NoneBefore : ℕ → List Task → ℕ → Type 0
NoneBefore tag tasks place = (i : ℕ) (other : Task) → i < place → is_write_with tag (slice_index_or tasks i other) ≡ false

first_is : (tag : ℕ) (task : Task) (more : List Task) → is_write_with tag task ≡ true → IsWriteAt tag (task ∷ more) 0
first_is tag (Command t o) more e = absurd cc
first_is tag (Request k) more e = absurd cc
first_is tag (Data w) more e = record {
  write = w;
  within = omega arith;
  at_place = λ other. refl;
  found = rw e refl;
  back = λ v same. (let f : (w.initiator_task_tag == v.initiator_task_tag) ≡ true = ap (λ (t : ℕ). w.initiator_task_tag == t) same ∙ e in rw f refl);
}

passed : (tag : ℕ) (task : Task) (more : List Task) → is_write_with tag task ≡ false → write_of (task ∷ more) tag ≡ write_of more tag
passed tag (Command t o) more e = refl
passed tag (Request k) more e = refl
passed tag (Data w) more e = rw e refl

passed_on : (tag : ℕ) (task : Task) (more : List Task) (v : Write) → v.initiator_task_tag ≡ tag → is_write_with tag task ≡ false → with_write v (task ∷ more)
    ≡ task ∷ with_write v more
passed_on tag (Command t o) more v same e = refl
passed_on tag (Request k) more v same e = refl
passed_on tag (Data w) more v same e = let f : (w.initiator_task_tag == v.initiator_task_tag) ≡ false = ap (λ (t : ℕ). w.initiator_task_tag == t) same ∙ e in
    rw f refl

pub write_at : (tag : ℕ) (tasks : List Task) (place : ℕ) (other : Task) → place < length tasks → NoneBefore tag tasks place →
    is_write_with tag (slice_index_or tasks place other) ≡ true → IsWriteAt tag tasks place
write_at tag [] place other lt before here = absurd (omega (arith, lt))
write_at tag (task ∷ more) zero other lt before here = first_is tag task more here
write_at tag (task ∷ more) (suc place) other lt before here =
    let not_first : is_write_with tag task ≡ false = before 0 task (omega arith) in
    let r : IsWriteAt tag more place = write_at tag more place other (omega (arith, lt)) (λ i x less. before (suc i) x (omega (arith, less))) here in
    record {
      write = r.write;
      within = (let w = r.within in omega (arith, w));
      at_place = r.at_place;
      found = passed tag task more not_first ∙ r.found;
      back = λ v same. ap (λ (ts : List Task). task ∷ ts) (r.back v same) ∙ sym (passed_on tag task more v same not_first);
    }

pub write_none : (tag : ℕ) (tasks : List Task) → NoneBefore tag tasks (length tasks) → write_of tasks tag ≡ None
write_none tag [] before = refl
write_none tag (task ∷ more) before = passed tag task more (before 0 task (omega arith))
    ∙ write_none tag more (λ i other less. before (suc i) other (omega (arith, less)))

-- ---- a task taken out, and put back

places_without : (tasks : List Task) (place : ℕ) → TakePlaces tasks → TakePlaces (remove tasks place)
places_without [] zero p = tt
places_without [] (suc place) p = tt
places_without (task ∷ more) zero p = p.1
places_without (task ∷ more) (suc place) p = (p.0, places_without more place p.1)

ones_without : (tasks : List Task) (place : ℕ) → map joined_task tasks ≡ tasks → map joined_task (remove tasks place) ≡ remove tasks place
ones_without [] zero e = refl
ones_without [] (suc place) e = refl
ones_without (task ∷ more) zero e = ap (λ (ts : List Task). drop 1 ts) e
ones_without (task ∷ more) (suc place) e =
    let first : joined_task task ≡ task = ap (λ (ts : List Task). slice_index_or ts 0 task) e in
    let rest : map joined_task more ≡ more = ap (λ (ts : List Task). drop 1 ts) e in
    λ i. first i ∷ ones_without more place rest i

pub behind_some : (tasks : List Task) → TakePlaces tasks → TakePlaces (tasks_behind tasks)
behind_some [] p = tt
behind_some (task ∷ more) p = p.1

pub without : (tasks : List Task) (place : ℕ) → AreInPlace tasks → AreInPlace (remove tasks place)
without [] place a = record { places = behind_some (remove [] place) (places_without [] place tt); joined = ones_without [] place a.joined }
without (task ∷ more) zero a = record { places = behind_some more a.places; joined = ones_without (task ∷ more) zero a.joined }
without (task ∷ more) (suc place) a = record { places = places_without more place a.places; joined = ones_without (task ∷ more) (suc place) a.joined }

places_with : (tasks : List Task) (place : ℕ) (v : Task) → TakePlaces tasks → place < length tasks → takes_place v ≡ true →
    TakePlaces (insert (remove tasks place) place v)
places_with [] place v p lt e = absurd (omega (arith, lt))
places_with (task ∷ more) zero v p lt e = (e, p.1)
places_with (task ∷ more) (suc place) v p lt e = (p.0, places_with more place v p.1 (omega (arith, lt)) e)

ones_with : (tasks : List Task) (place : ℕ) (v : Task) → map joined_task tasks ≡ tasks → place < length tasks → joined_task v ≡ v →
    map joined_task (insert (remove tasks place) place v) ≡ insert (remove tasks place) place v
ones_with [] place v e lt j = absurd (omega (arith, lt))
ones_with (task ∷ more) zero v e lt j = let rest : map joined_task more ≡ more = ap (λ (ts : List Task). drop 1 ts) e in λ i. j i ∷ rest i
ones_with (task ∷ more) (suc place) v e lt j =
    let first : joined_task task ≡ task = ap (λ (ts : List Task). slice_index_or ts 0 task) e in
    let rest : map joined_task more ≡ more = ap (λ (ts : List Task). drop 1 ts) e in
    λ i. first i ∷ ones_with more place v rest (omega (arith, lt)) j i

-- one behind the first takes a place
place_at : (tasks : List Task) (place : ℕ) (other : Task) → TakePlaces tasks → place < length tasks → takes_place (slice_index_or tasks place other) ≡ true
place_at [] place other p lt = absurd (omega (arith, lt))
place_at (task ∷ more) zero other p lt = p.0
place_at (task ∷ more) (suc place) other p lt = place_at more place other p.1 (omega (arith, lt))

pub with_ : (tag : ℕ) (tasks : List Task) (place : ℕ) (at : IsWriteAt tag tasks place) (v : Write) → AreInPlace tasks → v.immediate ≡ at.write.immediate →
    joined_write v ≡ v → AreInPlace (insert (remove tasks place) place (Data v))
with_ tag [] place at v a same j = absurd (let lt = at.within in omega (arith, lt))
with_ tag (task ∷ more) zero at v a same j = record { places = a.places; joined = ones_with (task ∷ more) zero (Data v) a.joined at.within (ap Data j) }
with_ tag (task ∷ more) (suc place) at v a same j =
    let lt : place < length more = (let w = at.within in omega (arith, w)) in
    let here : takes_place (Data at.write) ≡ true = ap takes_place (sym (at.at_place task)) ∙ place_at more place task a.places lt in
    record {
      places = places_with more place (Data v) a.places lt (ap (λ (b : Bool). not b) same ∙ here);
      joined = ones_with (task ∷ more) (suc place) (Data v) a.joined at.within (ap Data j);
    }

-- what has no tag shares it with none
same_none : (tag : Option ℕ) → is_same_tag tag None ≡ false
same_none None = refl
same_none (Some n) = refl

pub none_tagged : (tasks : List Task) → is_tag_of tasks None ≡ false
none_tagged [] = refl
none_tagged (task ∷ more) = (λ i. same_none (task_tag task) i || none_tagged more i)

-- ---- the write of a tag

some_write : {a b : Write} → Some a ≡ Some b → a ≡ b
some_write e = cc

pub tag_found : (tag : ℕ) (tasks : List Task) (w : Write) → write_of tasks tag ≡ Some w → w.initiator_task_tag ≡ tag
tag_found tag [] w e = absurd (let x : None ≡ Some w = e in cc)
tag_found tag (Command t o ∷ more) w e = tag_found tag more w e
tag_found tag (Request k ∷ more) w e = tag_found tag more w e
tag_found tag (Data v ∷ more) w e =
    by_cases (v.initiator_task_tag == tag)
    (λ h. let is : v ≡ w = some_write (sym (rw h refl) ∙ e) in ap (λ (x : Write). x.initiator_task_tag) (sym is) ∙ eqb-true v.initiator_task_tag tag h)
    (λ h. tag_found tag more w (sym (rw h refl) ∙ e))

-- the write that is there in its place
pub with_same : (tag : ℕ) (tasks : List Task) (w : Write) → write_of tasks tag ≡ Some w → w.initiator_task_tag ≡ tag → with_write w tasks ≡ tasks
with_same tag [] w e same = refl
with_same tag (Command t o ∷ more) w e same = ap (λ (ts : List Task). Command t o ∷ ts) (with_same tag more w e same)
with_same tag (Request k ∷ more) w e same = ap (λ (ts : List Task). Request k ∷ ts) (with_same tag more w e same)
with_same tag (Data v ∷ more) w e same =
    by_cases (v.initiator_task_tag == tag)
    (λ h.
    let is : v ≡ w = some_write (sym (rw h refl) ∙ e) in
    let f : (v.initiator_task_tag == w.initiator_task_tag) ≡ true = ap (λ (t : ℕ). v.initiator_task_tag == t) same ∙ h in
    rw f (ap (λ (x : Write). Data x ∷ more) (sym is)))
    (λ h.
    let f : (v.initiator_task_tag == w.initiator_task_tag) ≡ false = ap (λ (t : ℕ). v.initiator_task_tag == t) same ∙ h in
    rw f (ap (λ (ts : List Task). Data v ∷ ts) (with_same tag more w (sym (rw h refl) ∙ e) same)))
