use Rattle.std.proofs.Common.{◌≡◌, ℕ, List, [], Option, Some, refl, sym, subst, inl, inr}
use Rattle.std.proofs.KnownBytes.{Appends-nil, Consumes-nil}
use Rattle.iscsi_compare.specs.declared.fault.Which.TheVariants.{First, Second}
use Rattle.iscsi_compare.specs.Comparing.{ReadInput}
use Rattle.iscsi_comparison.specs.Comparisons.{IsSecond}
use Rattle.iscsi_comparison.proofs.files.Comparison.run.Goals as goal

-- what a reader gave is not the second input where a file is named
file_given : {Name : Type 0} (left : Option (List ℕ)) (name : Option Name) (path : Name) (second : ReadInput) → name ≡ Some path → IsSecond name second [] left
file_given left name path second is = subst (λ x. IsSecond x second [] left) (sym is) refl

pub returns-in_default : goal.returns-in_default
returns-in_default g c = record {
  compares = (
    [],
    [],
    Consumes-nil (g.R.Read.remaining c.args.r.now),
    Appends-nil (g.W.Write.contents c.args.w.now),
    inl (record { which = First; outcome_is = refl; unread = refl; none = refl }),
  );
}

pub returns-in_default-open : goal.returns-in_default-open
returns-in_default-open g c = record {
  compares = (
    [],
    [],
    Consumes-nil (g.R.Read.remaining c.args.r.now),
    Appends-nil (g.W.Write.contents c.args.w.now),
    inl (record { which = Second; outcome_is = refl; unread = refl; none = refl }),
  );
}

pub returns : goal.returns
returns g c =
    let e = c.between-2.ensures.compares in
    record {
      compares = (
        [],
        e.2,
        Consumes-nil (g.R.Read.remaining c.args.r.now),
        e.4,
        inr (record { first = e.0; second = e.1; given = file_given (g.R.Read.remaining c.args.r.now) c.args.self.now.second c.in-Some.name e.1 c.in-Some.is; compares = e.5 }),
      );
    }
