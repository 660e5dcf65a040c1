mod TextLemmas
mod TreeCodeLemmas
