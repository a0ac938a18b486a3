use Rattle.std.proofs.Common.{sym, ◌∙◌}
use Rattle.journal_scan.proofs.Contents.{of_attribute, of_block, of_entry, of_inode, of_truncation, ok_map}
use Rattle.journal_scan.proofs.content.read_content.Goals as goal

pub returns-in-Inode : goal.returns-in-Inode
returns-in-Inode c = λ sqnum group node h kind. of_inode c.args.bytes.now c.read_inode.result c.read_inode.ensures sqnum group node h (sym c.in-Inode.is ∙ kind)

pub returns-in-Data : goal.returns-in-Data
returns-in-Data c = λ sqnum group node h kind. of_block c.args.bytes.now c.read_block.result c.read_block.ensures sqnum group node h (sym c.in-Data.is ∙ kind)

pub returns-in-Entry : goal.returns-in-Entry
returns-in-Entry c = ok_map c.read_entry.result _ _ (λ content told sqnum group node h kind. of_entry c.args.bytes.now content told sqnum group node h (sym c.in-Entry.is ∙ kind)) c.read_entry.ensures

pub returns-in-Attribute : goal.returns-in-Attribute
returns-in-Attribute c = ok_map c.read_attribute.result _ _ (λ content told sqnum group node h kind. of_attribute c.args.bytes.now content told sqnum group node h (sym c.in-Attribute.is ∙ kind)) c.read_attribute.ensures

pub returns-in-Truncation : goal.returns-in-Truncation
returns-in-Truncation c = ok_map c.read_truncation.result _ _ (λ content told sqnum group node h kind. of_truncation c.args.bytes.now content told sqnum group node h (sym c.in-Truncation.is ∙ kind)) c.read_truncation.ensures
