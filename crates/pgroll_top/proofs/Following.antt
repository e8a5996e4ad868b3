-- The work of one lane, a task at a time.
use Rattle.std.proofs.Common.{◌≡◌, ℕ, Bool, true, false, List, [], ◌∷◌, ◌++◌, refl, sym, ap, subst, ◌∙◌, append_assoc, append-nil, inl, inr}
use Rattle.machine.specs.declared.events.Entry.{Entry}
use Rattle.machine.specs.declared.events.Event.{Event}
use Rattle.machine.specs.declared.events.Reply.{Reply}
use Rattle.machine.specs.declared.tasks.Task.{Task}
use Rattle.machine.specs.declared.tasks.Task.TheVariants as task
use Rattle.machine.specs.Follows.{Actors, Begins, Does, Follows, GoOn, IsEvent, Opens, UpTo, path_after, path_by}

pub path_append : (path : List (List ℕ)) (h e : List Entry) → path_after path (h ++ e) ≡ path_after (path_after path h) e
path_append path [] e = refl
path_append path (entry ∷ h) e = path_append (path_by path entry.event entry.reply) h e

-- some tasks are done, and then the first part of more
pub follows_begins : (who : Actors) (path : List (List ℕ)) (done later : List Task) (h e : List Entry)
    → Follows who path done h → Begins who (path_after path h) later e → Begins who path (done ++ later) (h ++ e)
follows_begins who path [] later h e f b = subst (λ x. Begins who path later (x ++ e)) (sym f) (subst (λ x. Begins who (path_after path x) later e) f b)
follows_begins who path (one ∷ done) later h e (mine, rest, split, does, f) b =
    inr (mine, rest ++ e, ap (λ x. x ++ e) split ∙ append_assoc mine rest e, does, follows_begins who (path_after path mine) done later rest e f (subst (λ p. Begins who p later e) (ap (path_after path) split ∙ path_append path mine rest) b))

-- one more task is done
pub follows_more : (who : Actors) (path : List (List ℕ)) (done : List Task) (one : Task) (h e : List Entry)
    → Follows who path done h → Does who (path_after path h) one e → Follows who path (done ++ one ∷ []) (h ++ e)
follows_more who path [] one h e f d = (e, [], ap (λ x. x ++ e) f ∙ sym (append-nil e), subst (λ x. Does who (path_after path x) one e) f d, refl)
follows_more who path (first ∷ done) one h e (mine, rest, split, does, f) d =
    (mine, rest ++ e, ap (λ x. x ++ e) split ∙ append_assoc mine rest e, does, follows_more who (path_after path mine) done one rest e f (subst (λ p. Does who p one e) (ap (path_after path) split ∙ path_append path mine rest) d))

opens_none : (who : Actors) (one : Task) → Opens who one []
opens_none who (task.Say reading) = refl
opens_none who (task.Start asked) = refl
opens_none who (task.Batch n) = refl
opens_none who task.Fill = tt
opens_none who task.Complete = tt
opens_none who task.Rollback = tt

pub begins_none : (who : Actors) (path : List (List ℕ)) (tasks : List Task) → Begins who path tasks []
begins_none who path [] = refl
begins_none who path (one ∷ tasks) = inl (opens_none who one)

-- the first part of one task is the first part of it and more
pub begins_longer : (who : Actors) (path : List (List ℕ)) (one : Task) (later : List Task) (e : List Entry) → Begins who path (one ∷ []) e → Begins who path (one ∷ later) e
begins_longer who path one later e (inl opens) = inl opens
begins_longer who path one later e (inr (mine, rest, split, does, none)) = inr (mine, [], split ∙ ap (λ x. mine ++ x) none, does, begins_none who (path_after path mine) later)

-- all of a task
pub does_begins : (who : Actors) (path : List (List ℕ)) (one : Task) (e : List Entry) → Does who path one e → Begins who path (one ∷ []) e
does_begins who path one e does = inr (e, [], sym (append-nil e), does, refl)

-- ---- one event over and over

module _ (actor : ℕ) (what : Event) (goes_on : Reply → Bool) where
  pub go_on_more : (entries : List Entry) (entry : Entry) → GoOn actor what goes_on entries → IsEvent actor what entry → goes_on entry.reply ≡ true → GoOn actor what goes_on (entries ++ entry ∷ [])
  go_on_more [] entry h is more = (is, more, tt)
  go_on_more (first ∷ entries) entry h is more = (h.0, h.1, go_on_more entries entry h.2 is more)

  pub up_to_end : (entries : List Entry) (entry : Entry) → GoOn actor what goes_on entries → IsEvent actor what entry → goes_on entry.reply ≡ false → UpTo actor what goes_on (entries ++ entry ∷ [])
  up_to_end [] entry h is none = (is, none)
  up_to_end (first ∷ []) entry h is none = (h.0, h.1, (is, none))
  up_to_end (first ∷ next ∷ entries) entry h is none = (h.0, h.1, up_to_end (next ∷ entries) entry h.2 is none)
