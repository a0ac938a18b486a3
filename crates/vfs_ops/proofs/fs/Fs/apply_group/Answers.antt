use Rattle.std.proofs.Common.{◌≡◌, ◌+◌, ◌*◌, ◌⊎◌, ◌++◌, Err, List, ap, append-nil, arith, inl, length, refl, rules, subst, sym, ◌∙◌}
use Rattle.fs_model.specs.declared.backing_answers.Mode.{Mode}
use Rattle.fs_model.specs.declared.backing_answers.Mode.TheVariants.{ReadOnly}
use Rattle.fs_model.specs.declared.refusal.NoSpace.{NoSpace}
use Rattle.fs_model.specs.declared.refusal.Refusal.{Refusal}
use Rattle.fs_model.specs.declared.refusal.Refusal.TheVariants.{Enomem, Enospc, Erofs}
use Rattle.fs_model.specs.declared.reply.Reply.TheVariants.{Refused}
use Rattle.fs_model.specs.Backing.{Goes}
use Rattle.buffered_files.specs.CallLaws.{Goes-none, Goes-within}
use Rattle.buffered_files.specs.Calls.{IsNotEnospc}
use Rattle.vfs_ops.specs.FilesState.{present_in}
use Rattle.vfs_ops.specs.Fs.{files_state}
use Rattle.vfs_ops.specs.Passing.{HasOpen}
use Rattle.vfs_ops.specs.Steps.{no_space_in}
use Rattle.vfs_ops.specs.Writing.{HasGroupRoom}
use Rattle.vfs_ops.proofs.Cutting.{cut_none}
use Rattle.vfs_ops.proofs.Serving.{alike_self, none_noted}
use Rattle.vfs_ops.proofs.fs.Fs.apply_group.Goals as goal

pub returns-in-ReadOnly-clause-applied : goal.returns-in-ReadOnly-clause-applied
returns-in-ReadOnly-clause-applied g c =
    let old = files_state c.args.self.now in
    let cause = c.in-ReadOnly.cause in
    let mode : old.backing.mode ≡ ReadOnly cause = sym c.mode.ensures ∙ c.in-ReadOnly.is in
    record {
      done = tt;
      same = alike_self (present_in old);
      admitted = tt;
      why = mode;
      read_only = subst (λ (m : Mode). HasOpen {T = Unit {0}} old old m (Err (Erofs cause))) (sym mode) (refl, refl);
      refused = sym (append-nil old.refused);
      issued = refl;
      weighed = omega arith;
      orphans = inl (omega arith);
      at_once = λ room. (refl, Goes-within 0 (length c.args.group.now) old.backing old.backing (omega arith) (Goes-none old.backing));
      cut = cut_none old.backing old.kept c.args.group.now (Erofs cause);
      goes = Goes-within 0 (2 * length old.kept.pages.dirty + length c.args.group.now) old.backing old.backing (omega arith) (Goes-none old.backing);
    }

-- what isn't want of room notes no sides
untold : (T : Type 0) (first last : List NoSpace) (refusal noted : Refusal) → IsNotEnospc {T = T} (Err refusal) → (noted ≡ refusal) ⊎ ((noted ≡ Enomem) × ((space : NoSpace) × (refusal ≡ Enospc space))) → last ≡ first ++ no_space_in (Refused noted) → last ≡ first
untold T first last refusal noted room told more = more ∙ ap (λ sides. first ++ sides) (none_noted T refusal noted room told) ∙ append-nil first

pub returns-in-Err-clause-applied : goal.returns-in-Err-clause-applied
returns-in-Err-clause-applied g c =
    let old = files_state c.args.self.now in
    let once : HasGroupRoom old.backing c.args.need.now → (c.noted.new.refused.items ≡ old.refused) × Goes (length c.args.group.now) old.backing (g.B.Backing.state c.apply_over.new.backing) =
    λ room. (untold (Unit {0}) old.refused c.noted.new.refused.items c.in-Err.refusal c.noted.result (c.in-Err.ensures.at_once room) c.noted.ensures.refusal c.noted.ensures.noted, c.in-Err.ensures.alone room) in
    search (rules, once)
