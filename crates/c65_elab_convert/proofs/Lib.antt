mod ArgumentLaws
mod SealLaws
