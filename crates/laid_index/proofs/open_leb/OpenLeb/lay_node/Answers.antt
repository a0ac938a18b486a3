use Rattle.std.proofs.Common.{◌≡◌, ◌+◌, length, refl, rules}
use Rattle.ubifs_base.specs.RawOf.{raw_of}
use Rattle.laid_index.specs.Opened.{open_lnum}
use Rattle.laid_index.proofs.Opening.{node_stands, then_laid}
use Rattle.laid_index.proofs.open_leb.OpenLeb.lay_node.Goals as goal

pub returns-clause-lays : goal.returns-clause-lays
returns-clause-lays g c =
    let lnum : c.make_room.new.self.first + c.len.result ≡ open_lnum c.make_room.new.self = search rules in
    let offs : c.len-2.result ≡ length c.make_room.new.self.bytes.items = search rules in
    then_laid (raw_of c.args.geometry.now) (record { level = c.args.level; branches = c.args.siblings.now }) _ c.args.self.now c.make_room.new.self c.append.new.self
    (g.V.Volume.state c.args.volume.now).holds (g.V.Volume.state c.make_room.new.volume).holds c.args.geometry.now.in_range c.in_ok-make_room.ensures.makes c.in_ok-append.ensures.appended
    lnum offs refl

pub returns-clause-stands : goal.returns-clause-stands
returns-clause-stands g c = λ contents on.
    let lnum : c.make_room.new.self.first + c.len.result ≡ open_lnum c.make_room.new.self = search rules in
    let offs : c.len-2.result ≡ length c.make_room.new.self.bytes.items = search rules in
    node_stands (record { level = c.args.level; branches = c.args.siblings.now }) _ c.make_room.new.self c.append.new.self (g.V.Volume.state c.make_room.new.volume).holds contents
    c.in_ok-append.ensures.appended lnum offs refl on
