-- The end of a run of `many`, with its prototypes and without them.
use Rattle.std.proofs.Common.{◌∙◌, inl, inr, length, refl, arith}
use Rattle.srv_serve.proofs.ManyLemmas.{ends-at-spec, OpensEach-all}
use Rattle.srv_serve.proofs.several.many.Goals as goal

pub read_each-requires-clause-some : goal.read_each-requires-clause-some
read_each-requires-clause-some g c = rw c.as_slice-specs.ensures (omega (arith, c.requires.some_specs))

pub returns-in-Err : goal.returns-in-Err
returns-in-Err g c = record {
  runs = inl (record {
    protos = c.read_each.new.protos;
    reads = rw c.as_slice-specs.ensures at c.read_each.ensures.reads;
    at = ends-at-spec c.args.serving.now.specs (length c.read_each.new.protos) c.index-specs-number.result _ _
        c.in-Err.end (rw c.as_slice-specs.ensures at c.in-Err.ensures.ends)
        (rw (c.as_slice-path.ensures, c.as_slice-specs.ensures, c.len-number.ensures) at c.report.ensures);
    leaves = record { opener_is = refl; devices_are = refl };
  });
  unused = refl;
  undialled = refl;
}

pub returns : goal.returns
returns g c =
    let read = c.read_each.ensures in
    let all = rw c.as_slice-specs.ensures at c.in-Ok.ensures.all in
    record {
      runs = inr (record {
        protos = c.read_each.new.protos;
        reads = OpensEach-all _ _ _ all (rw c.as_slice-specs.ensures at read.reads);
        files = c.serve_with-end.ensures.unread ∙ c.in-Ok.ensures.same;
        serves = elim (rw c.as_slice.ensures at c.serve_with-end.ensures.serves) [
          | inl unserved ↦ inl (record { stopped = unserved.stopped; reports = unserved.reports })
          | inr served ↦ inr (record { outcomes = served.outcomes; run = served.run; ends = served.ends })
        ];
      });
      unused = c.serve_with-end.ensures.unused;
      undialled = c.serve_with-end.ensures.undialled;
    }
